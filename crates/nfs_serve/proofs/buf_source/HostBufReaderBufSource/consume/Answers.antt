use Rattle.nfs_serve.proofs.Buffers.{reader_consumed}
use Rattle.nfs_serve.proofs.buf_source.HostBufReaderBufSource.consume.Goals as goal

pub returns-clause-bytes : goal.returns-clause-bytes
returns-clause-bytes g c =
    reader_consumed g.T.Read.remaining c.args.self.now.inner c.consume.new.self c.args.amount
    c.consume.ensures.buffer c.consume.ensures.inner c.consume.ensures.capacity
