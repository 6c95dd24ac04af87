-- How the result of READDIR is spelled (RFC 5662; RFC 8881 section 18.23).
use Rattle.nfs_xdr.specs.{Codec.{Codec, flag, ◌then◌, as_type}, Combinators.fixed, Chain.chain}
use Rattle.nfs_results.specs.{declared.res.ReadDirOk.ReadDirOk, Items.entry}

unfoldable pub read_dir : Codec ReadDirOk
read_dir = as_type (λ (cookieverf, (entries, eof)). record { cookieverf = cookieverf; entries = entries; eof = eof })
    (λ r. (r.cookieverf, (r.entries, r.eof))) (fixed 8 then chain entry then flag)
