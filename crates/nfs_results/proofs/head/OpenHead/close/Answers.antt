use Rattle.std.proofs.Common.{◌∙◌, ap, arith, length, List, ℕ}
use Rattle.nfs_xdr.specs.{SheetState.SheetState, Spelling.number, Status.status_number}
use Rattle.nfs_results.proofs.Heads.{set_head, set_at, length_headed, length_set_at}
use Rattle.nfs_results.proofs.head.OpenHead.close.Goals as goal

pub set_u32-requires : goal.set_u32-requires
set_u32-requires c =
    let h = c.requires.stands in
    record { within = omega (arith, h.places.status, ap length h.spelled, length_headed h.before h.status h.count h.tag h.behind) }

pub set_u32-requires-2 : goal.set_u32-requires-2
set_u32-requires-2 c =
    let h = c.requires.stands in
    let same = length_set_at c.args.self.status_at c.number.result c.args.out.now.bytes
    (omega (arith, h.places.status, ap length h.spelled, length_headed h.before h.status h.count h.tag h.behind)) in
    record {
      within = omega (
        arith,
        h.places.count,
        same,
        ap (λ (p : SheetState). length p.bytes) c.set_u32.ensures,
        ap length h.spelled,
        length_headed h.before h.status h.count h.tag h.behind,
      );
    }

pub returns : goal.returns
returns c = record {
  bytes = λ before s tag n behind at stood.
      ap (λ (p : SheetState). p.bytes) c.set_u32-2.ensures
      ∙ ap (λ (p : SheetState). set_at c.args.self.count_at (number c.args.count) p.bytes) c.set_u32.ensures
      ∙ ap (λ (k : ℕ). set_at c.args.self.count_at (number c.args.count) (set_at c.args.self.status_at (number k) c.args.out.now.bytes)) c.number.ensures
      ∙ ap (λ (bytes : List ℕ). set_at c.args.self.count_at (number c.args.count)
      (set_at c.args.self.status_at (number (status_number c.args.status)) bytes)) stood
      ∙ set_head before s tag n behind _ _ _ _ at;
  room = ap (λ (p : SheetState). p.room) c.set_u32-2.ensures ∙ ap (λ (p : SheetState). p.room) c.set_u32.ensures;
}
