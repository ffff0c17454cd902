use Rattle.std.proofs.Common.{◌≡◌, ◌+◌, ◌++◌, take, get_or, refl, sym, ◌∙◌, ap, subst, arith, rules, length}
use Rattle.std.specs.List.{flat_map}
use Rattle.std.proofs.lemmas.List.{take_all}
use Rattle.sem_key.specs.Region.{region}
use Rattle.sem_mark.specs.Walks.{Walk, children_at, reach, IsWalk}
use Rattle.sem_mark.proofs.Counts.{open_count-length}
use Rattle.sem_mark.proofs.Marks.{all_marked-same}
use Rattle.sem_mark.proofs.Walking.{IsWalk-start, IsWalk-next, IsWalk-end, all-length, links-more, link_room-next}
use Rattle.sem_mark.proofs.region.walk_region.Goals as goal

pub reach-requires : goal.reach-requires
reach-requires c =
    let few = open_count-length c.args.caps.now.caps in
    let none = ap length c.requires.empty in
    let room = c.requires.room in
    record { room = omega arith }

pub loop-at-init : goal.loop-at-init
loop-at-init c =
    let few = open_count-length c.args.caps.now.caps in
    let none = ap length c.requires.empty in
    let caps = c.args.caps.now.caps in
    record {
      walk = subst (λ w. IsWalk caps c.args.root c.args.job w 0) (ap (λ ks. reach c.args.job c.args.root (record { caps = caps; keys = ks }))
          (sym c.requires.empty) ∙ sym c.reach.ensures.walk) (IsWalk-start caps c.args.root c.args.job);
      rest = c.reach.ensures.rest;
      room = omega (arith, c.reach.ensures.room);
      links = c.requires.no_links;
      valid = rw c.requires.no_links (λ k d lt. absurd (omega arith));
      link_capacity = refl;
      capacity = c.reach.ensures.capacity;
      within = omega arith;
    }

pub loop-at-preserved : goal.loop-at-preserved
loop-at-preserved c =
    let caps = c.args.caps.now.caps in
    let now : Walk = record { caps = c.loop-at.caps.caps; keys = c.loop-at.keys.items } in
    let p = c.index.result.now in
    let here : get_or now.keys c.loop-at.at p ≡ p = search rules in
    let next = IsWalk-next caps c.args.root c.args.job now c.loop-at.at p (omega arith) here c.loop-at.invariant.walk in
    record {
      walk = subst (λ w. IsWalk caps c.args.root c.args.job w (c.loop-at.at + 1)) (sym c.reach_children.ensures.walk) next;
      rest = c.reach_children.ensures.rest ∙ rw c.loop-at.invariant.rest refl;
      room = omega (arith, c.reach_children.ensures.room, c.loop-at.invariant.room);
      links = c.reach_children.ensures.links
          ∙ (ap (λ ks. ks ++ children_at now.caps p) c.loop-at.invariant.links
          ∙ (sym (links-more caps c.args.root c.args.job now c.loop-at.at p (omega arith) here c.loop-at.invariant.walk)
          ∙ ap (λ (w : Walk). flat_map (children_at caps) (take (c.loop-at.at + 1) w.keys)) (sym c.reach_children.ensures.walk)));
      valid = c.reach_children.ensures.valid c.loop-at.invariant.valid;
      link_capacity = c.reach_children.ensures.link_capacity ∙ c.loop-at.invariant.link_capacity;
      capacity = c.reach_children.ensures.capacity ∙ c.loop-at.invariant.capacity;
      within = omega (arith, all-length c.args.job (children_at now.caps p) now, ap (λ (w : Walk). length w.keys) c.reach_children.ensures.walk);
    }

pub returns-clause-keys : goal.returns-clause-keys
returns-clause-keys c = IsWalk-end c.args.caps.now.caps c.args.root c.args.job _ c.loop-at.at c.reach.ensures.store.keys.rising
    (omega arith) c.loop-at.invariant.walk

pub returns-clause-caps : goal.returns-clause-caps
returns-clause-caps c =
    let caps = c.args.caps.now.caps in
    let same = IsWalk-end caps c.args.root c.args.job _ c.loop-at.at c.reach.ensures.store.keys.rising (omega arith) c.loop-at.invariant.walk in
    c.loop-at.invariant.rest ∙ ap (λ cs. record c.args.caps.now { caps = cs }) (c.loop-at.invariant.walk.marked
    ∙ all_marked-same caps c.loop-at.keys.items (region caps c.args.root) c.args.job same)

pub reach_children-requires-clause-link_room : goal.reach_children-requires-clause-link_room
reach_children-requires-clause-link_room c =
    let caps = c.args.caps.now.caps in
    let now : Walk = record { caps = c.loop-at.caps.caps; keys = c.loop-at.keys.items } in
    let p = c.index.result.now in
    let here : get_or now.keys c.loop-at.at p ≡ p = search rules in
    let room = link_room-next caps c.args.root c.args.job now c.loop-at.at _ p (omega arith) here c.loop-at.invariant.walk c.requires.link_room in
    omega (arith, room, ap length c.loop-at.invariant.links, c.loop-at.invariant.link_capacity)

pub returns-clause-links : goal.returns-clause-links
returns-clause-links c = c.loop-at.invariant.links ∙ ap (flat_map (children_at c.args.caps.now.caps)) (take_all c.loop-at.at c.loop-at.keys.items (omega arith))
