use Rattle.std.proofs.Common.{◌≡◌, ◌≤◌, ◌-◌, min, length, not, refl, sym, ◌∙◌, ap, arith, vec_len, vec_capacity}
use Rattle.std.proofs.lemmas.List.Filters.{length-filter_both}
use Rattle.sem_key.specs.Capability.{capability_of}
use Rattle.sem_key.specs.CapList.{is_marked_by, not_marked_by, link_count}
use Rattle.sem_caps.specs.CapStore.{Spot}
use Rattle.sem_caps.specs.CapStore.{CapStore, held_key}
use Rattle.sem_caps.specs.Stored.{capabilities_in, row_at, rows_of}
use Rattle.sem_caps.proofs.Places.{keys-rows}
use Rattle.sem_caps.proofs.Swept.{plain-filter, stored-swept}
use Rattle.sem_caps.proofs.Links.{few-swept}
use Rattle.sem_caps.proofs.Tally.{marked-few, removed-count, tallied-swept}
use Rattle.sem_caps.proofs.Added.{kept-filter}
use Rattle.sem_caps.proofs.caps.Caps.remove_marked_of.Goals as goal

-- what is kept is what the job has not marked
pub invariant_of-self : goal.invariant_of-self
invariant_of-self c =
    let rows = rows_of c.self.inside.slab c.self.inside.spots.items in
    let room : c.unmarked_child_room-self-inside.result ≡ held_key (not_marked_by c.args.job (capabilities_in rows)) c.self.inside.child_room =
    c.unmarked_child_room-self-inside.ensures ∙ sym (ap (λ (s : CapStore). held_key (not_marked_by c.args.job s.caps) s.child_room) c.self.view_is) in (
      rw (c.take_out-self-inside.ensures.rows, room) (stored-swept c.args.job rows c.self.inside.child_room c.self.invariant.0),
      rw c.take_out-self-inside.ensures.rows (record {
        counted = c.take_out-self-inside.ensures.links ∙ sym (ap link_count (plain-filter c.args.job rows));
        few = few-swept c.args.job rows c.self.invariant.1.few;
      }),
      c.take_out-self-inside.ensures.placed,
      rw (
        c.take_out-self-inside.ensures.rows,
        c.drop_marks.ensures,
      ) (tallied-swept c.args.job rows c.self.inside.marks.items c.self.invariant.3 (c.len.result - c.len-before.result) (
          let count = removed-count c.args.job (capabilities_in rows) c.args.gone.now.items c.take_out-self-inside.new.gone.items c.take_out-self-inside.ensures.gone in
          omega (arith, count, c.len.ensures, c.len-before.ensures))),
    )

-- no more were removed than are counted
pub drop_marks-requires-clause-most : goal.drop_marks-requires-clause-most
drop_marks-requires-clause-most c =
    let rows = rows_of c.self.inside.slab c.self.inside.spots.items in
    let count = removed-count c.args.job (capabilities_in rows) c.args.gone.now.items c.take_out-self-inside.new.gone.items c.take_out-self-inside.ensures.gone in
    let few = marked-few c.args.job rows c.self.inside.marks.items c.self.invariant.3 in
    omega (arith, count, few, c.len.ensures, c.len-before.ensures)

pub returns-clause-caps : goal.returns-clause-caps
returns-clause-caps c =
    ap capabilities_in c.take_out-self-inside.ensures.rows
    ∙ (plain-filter c.args.job (rows_of c.self.inside.slab c.self.inside.spots.items) ∙ ap (λ (s : CapStore). not_marked_by c.args.job s.caps) c.self.view_is)

pub returns-clause-child_room : goal.returns-clause-child_room
returns-clause-child_room c =
    let left = ap capabilities_in c.take_out-self-inside.ensures.rows ∙ (plain-filter c.args.job (rows_of c.self.inside.slab c.self.inside.spots.items)
    ∙ ap (λ (s : CapStore). not_marked_by c.args.job s.caps) c.self.view_is) in
    c.unmarked_child_room-self-inside.ensures ∙ sym (ap (λ cs. held_key cs c.args.self.now.child_room) left)

-- no part is smaller, and no more is held
pub returns-clause-spare : goal.returns-clause-spare
returns-clause-spare c =
    let kept = ap length c.take_out-self-inside.ensures.spots in
    let both = length-filter_both (λ (s : Spot). is_marked_by c.args.job (capability_of (row_at c.self.inside.slab s)))
    (λ s. not (is_marked_by c.args.job (capability_of (row_at c.self.inside.slab s)))) (λ s. refl) c.self.inside.spots.items in
    let fewer : vec_len c.take_out-self-inside.new.spots ≤ vec_len c.self.inside.spots = omega (
      arith,
      c.take_out-self-inside.new.spots.ok.0,
      c.self.inside.spots.ok.0,
    ) in
    let old : min c.self.inside.slab.capacity (vec_capacity c.self.inside.spots) - vec_len c.self.inside.spots ≡ c.args.self.now.spare =
    ap (λ (s : CapStore). s.spare) c.self.view_is in
    rw (← old, c.take_out-self-inside.ensures.slab_capacity, c.take_out-self-inside.ensures.spots_capacity) (omega (arith, fewer))

-- each spot that is left was there before
pub returns-clause-places : goal.returns-clause-places
returns-clause-places c =
    let keys = keys-rows c.self.inside.slab c.self.inside.spots.items c.self.invariant.2.leads in
    let is_list = rw keys at c.self.invariant.0.keys in
    rw (← c.self.view_is, c.take_out-self-inside.ensures.spots)
    (kept-filter (λ s. not (is_marked_by c.args.job (capability_of (row_at c.self.inside.slab s)))) c.self.inside.spots.items is_list.rising)
