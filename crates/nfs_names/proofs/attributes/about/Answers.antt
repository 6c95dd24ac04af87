use Rattle.std.proofs.Common.{◌∙◌, ℕ, ap, sym}
use Rattle.nfs_tree.specs.{declared.limits.Limits.Limits, declared.profile.Profile.Profile, declared.stored.Size.Size}
use Rattle.nfs_attrs.specs.Attributes.{values}
use Rattle.nfs_attrs.proofs.Unasked.{values_without_links}
use Rattle.nfs_names.specs.{Attributes.{about, taken_by}, State.state_of, declared.attributes.Room.Room}
use Rattle.nfs_names.proofs.{Found.size_bytes, Masks.values_without_room}
use Rattle.nfs_names.proofs.attributes.about.Goals.{then-has, else-has, then-asks_room, else-asks_room}
use Rattle.nfs_names.proofs.attributes.about.Goals as goal

pub returns-clause-values : goal.returns-clause-values
returns-clause-values c =
    let s = state_of c.args.store.now in
    let told = about s c.args.node.now in
    let object = c.args.node.now.object in
    let asked = c.args.asked in
    let size = c.args.size in
    let links = c.if-has.links in
    let room = c.if-asks_room.room in
    ap (λ (m : Limits). values asked (record told {
      size = size.bytes;
      links = links;
      instance = c.instance.result;
      most_bytes = m.bytes;
      profile = c.profile-profile.result;
      used = c.taken_by.result;
      files_free = room.files_free;
      files_total = room.files_total;
      space_free = room.space_free;
      space_total = room.space_total;
    }) object) c.limits.ensures
    ∙ ap (λ (u : ℕ). values asked (record told {
      size = size.bytes;
      links = links;
      instance = c.instance.result;
      profile = c.profile-profile.result;
      used = u;
      files_free = room.files_free;
      files_total = room.files_total;
      space_free = room.space_free;
      space_total = room.space_total;
    }) object) c.taken_by.ensures
    ∙ ap (λ (p : Profile). values asked (record told {
      size = size.bytes;
      links = links;
      instance = c.instance.result;
      profile = p;
      used = taken_by p size;
      files_free = room.files_free;
      files_total = room.files_total;
      space_free = room.space_free;
      space_total = room.space_total;
    }) object) c.profile-profile.ensures
    ∙ ap (λ (i : ℕ). values asked (record told {
      size = size.bytes;
      links = links;
      instance = i;
      used = taken_by told.profile size;
      files_free = room.files_free;
      files_total = room.files_total;
      space_free = room.space_free;
      space_total = room.space_total;
    }) object) c.instance.ensures
    ∙ ap (λ (k : Size). values asked (record told {
      size = k.bytes;
      links = links;
      used = taken_by told.profile k;
      files_free = room.files_free;
      files_total = room.files_total;
      space_free = room.space_free;
      space_total = room.space_total;
    }) object) c.requires
    ∙ ap (λ (n : ℕ). values asked (record told {
      size = n;
      links = links;
      files_free = room.files_free;
      files_total = room.files_total;
      space_free = room.space_free;
      space_total = room.space_total;
    }) object) (size_bytes s.tree c.args.node.now.number)
    ∙ elim c.if-asks_room.branch [
      | then-asks_room w ↦ ap (λ (r : Room). values asked (record told {
        links = links;
        files_free = r.files_free;
        files_total = r.files_total;
        space_free = r.space_free;
        space_total = r.space_total;
      }) object) (w.room-is ∙ w.room_in-room.ensures)
      | else-asks_room w ↦ values_without_room asked (record told { links = links }) object room (sym c.asks_room.ensures ∙ w.if-asks_room.false)
    ]
    ∙ elim c.if-has.branch [
      | then-has w ↦ ap (λ (n : ℕ). values asked (record told { links = n }) object) (w.links-is ∙ w.links_of-links.ensures)
      | else-has w ↦ values_without_links asked told object links (sym c.has.ensures ∙ w.if-has.false)
    ]
