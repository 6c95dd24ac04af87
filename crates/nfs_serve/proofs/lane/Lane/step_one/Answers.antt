use Rattle.std.proofs.Common.{◌≡◌, ◌<◌, ◌≤◌, refl, sym, subst, ◌∙◌, ◌++◌, ap, [], ◌∷◌, take, length, take-append-drop, take-take, arith, length-drop, length-take, length-take-le, min}
use Rattle.std.proofs.lemmas.List.{drop_at}
use Rattle.std.specs.Prelude.{◌||◌, drop}
use Rattle.nfs_serve.specs.{Told.{Moment, Late, Logs}, Sequenced.answers_sequence, Deeds.counted, Lane.is_first}
use Rattle.nfs_serve.proofs.Advancing.{Logs-trans, heard_or}
use Rattle.nfs_serve.proofs.lane.Lane.step_one.Goals as goal

pub consume-requires : goal.consume-requires
consume-requires g c =
    let unread = c.args.self.now.unread in
    omega (arith, c.take_one-used.ensures.used.1, ap length c.piece.ensures ∙ length-take 65536 unread)

pub returns : goal.returns
returns g c =
    let (out, takes, owed) = c.take_one-used.ensures.taken in
    let lane = c.args.self.now in
    let unread = lane.unread in
    let n = length c.rest-before.result.now in
    let behind = drop_at lane.owed.bytes out n (sym (ap length c.rest-before.ensures)) in
    let told : c.is_first-first.result ≡ is_first lane.heard out = c.is_first-first.ensures ∙ ap (λ l. is_first lane.heard (drop n l)) owed ∙ ap (is_first lane.heard) behind in
    let used = c.take_one-used.result in
    let piece = c.piece.result.now in
    let part = take used piece in
    let (positive, within) = c.take_one-used.ensures.used in
    let size : length part ≡ used = length-take-le used piece within in
    let most : length piece ≡ min 65536 (length unread) = ap length c.piece.ensures ∙ length-take 65536 unread in
    let few : used ≤ 65536 = omega (arith, within, most) in
    let front : part ≡ take used unread = ap (take used) c.piece.ensures ∙ take-take used 65536 unread few in
    let split : unread ≡ part ++ c.consume.new.self =
    rw front (rw c.consume.ensures (sym (take-append-drop used unread))) in
    let some : 0 < length part = omega (arith, positive, size) in
    let shorter : length c.consume.new.self < length unread =
    omega (arith, positive, within, most, ap length c.consume.ensures, length-drop used unread) in record {
      moment = c.now-now.result;
      part = part;
      out = out;
      clock = Logs-trans _ _ _ (Moment c.now-now.result ∷ []) (Late c.is_late-left.result ∷ []) c.now-now.ensures.tells c.is_late-left.ensures;
      logs = subst (λ b. Logs (g.P.Ports.log c.args.ports.now) (g.P.Ports.log c.count.new.ports) (counted c.args.port b)) told
          (Logs-trans _ _ _ [] (counted c.args.port c.is_first-first.result) c.answered.ensures.logs c.count.ensures.logs);
      steps = record {
        live = c.requires.live;
        short = c.requires.short;
        room = c.requires.room;
        clock = c.now-now.ensures.bound;
        some = some;
        few = omega (arith, few, size);
        split = split;
        takes = takes;
      };
      owed = owed;
      heard = c.either-self.ensures ∙ ap (λ b. lane.heard || b) told ∙ heard_or lane.heard (answers_sequence out);
      live = refl;
      gone = refl;
      shorter = shorter;
      one = omega (arith, c.requires.left);
      bytes = refl;
    }
