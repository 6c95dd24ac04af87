use Rattle.std.proofs.Common.{sym, ◌∙◌, arith, inl, inr}
use Rattle.std.proofs.lemmas.Bool.{cases_lt}
use Rattle.nfs_ranges.specs.{declared.Kind.TheVariants.Write, Holders.bytes_of, Blocks.flat}
use Rattle.nfs_ranges.proofs.{OwnerLemmas.bytes-canonical, ListedLemmas.{hit_reaches, hit_none, relisted}}
use Rattle.nfs_ranges.proofs.listed.relist.Goals as goal

pub returns-then-part-x-clause-ok : goal.returns-then-part-x-clause-ok
returns-then-part-x-clause-ok c = λ b x lo hi at.
    relisted (flat c.args.groups.now) c.args.part.now c.loop-x.from c.in-Some.x c.loop-x.listings.reads c.loop-x.listings.writes c.insert.new.self.reads
    c.insert.new.self.writes c.held_by.result c.requires.canonical (sym c.in-Some.is ∙ c.hit_of.ensures) c.loop-x.invariant.0 c.insert.ensures.reads
    c.insert.ensures.writes c.held_by.ensures c.in_ok-insert.ensures.ok b x lo (omega (arith, c.if-part-x.true, hi)) at

pub loop-x-smaller : goal.loop-x-smaller
loop-x-smaller c =
    let reaches = hit_reaches Write c.loop-x.from c.args.part.now.last (bytes_of (flat c.args.groups.now) c.args.part.now.owner) c.in-Some.x (bytes-canonical 0 (flat c.args.groups.now) c.args.part.now.owner c.requires.canonical.from)
    (sym c.in-Some.is ∙ c.hit_of.ensures) in
    omega (arith, reaches, c.if-part-x.false)

pub loop-x-preserved : goal.loop-x-preserved
loop-x-preserved c = (
  λ b x lo lt at. relisted (flat c.args.groups.now) c.args.part.now c.loop-x.from c.in-Some.x c.loop-x.listings.reads c.loop-x.listings.writes
      c.insert.new.self.reads c.insert.new.self.writes c.held_by.result c.requires.canonical (sym c.in-Some.is ∙ c.hit_of.ensures) c.loop-x.invariant.0
      c.insert.ensures.reads c.insert.ensures.writes c.held_by.ensures c.in_ok-insert.ensures.ok b x lo (omega arith) at,
  λ h has. c.insert.ensures.reads h (c.loop-x.invariant.1 h has),
  λ h has. c.insert.ensures.writes h (c.loop-x.invariant.2 h has),
)

pub returns-clause-ok : goal.returns-clause-ok
returns-clause-ok c = λ b x lo hi at. elim (cases_lt b c.loop-x.from) [
  | inl lt ↦ c.loop-x.invariant.0 b x lo lt at
  | inr ge ↦ absurd (hit_none c.loop-x.from c.args.part.now.last b (bytes_of (flat c.args.groups.now) c.args.part.now.owner) x
      (bytes-canonical 0 (flat c.args.groups.now) c.args.part.now.owner c.requires.canonical.from) (sym c.in_default.is ∙ c.hit_of.ensures) ge hi at)
]
