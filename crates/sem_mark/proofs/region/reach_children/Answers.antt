use Rattle.std.proofs.Common.{◌≡◌, ◌+◌, List, [], ◌∷◌, ◌++◌, take, get_or, refl, sym, ◌∙◌, ap, arith, append-nil, append_assoc, length, length-append}
use Rattle.std.proofs.lemmas.List.{take_more, take_all, length-take-le}
use Rattle.sem_key.specs.KeyName.{KeyName, IsValidKey}
use Rattle.std.proofs.lemmas.List.Elements.{All-push}
use Rattle.sem_key.specs.Lists.{in_turn}
use Rattle.sem_key.proofs.InTurns.{in_turn-append}
use Rattle.sem_mark.specs.Walks.{Walk, children_at, reach}
use Rattle.sem_mark.proofs.Walking.{children-reach}
use Rattle.sem_mark.proofs.region.reach_children.Goals as goal

pub child_at-child-requires : goal.child_at-child-requires
child_at-child-requires c = rw c.loop-at.invariant.same (omega (arith, c.child_count-at-end.ensures))

pub loop-at-init : goal.loop-at-init
unfolding in_turn
loop-at-init c = record {
  walk = refl;
  same = refl;
  rest = refl;
  room = omega arith;
  capacity = refl;
  links = sym (append-nil c.args.links.now.items);
  valid = λ all. all;
  link_capacity = refl;
}

pub loop-at-preserved : goal.loop-at-preserved
unfolding in_turn
loop-at-preserved c =
    let children : List KeyName = children_at c.args.caps.now.caps c.args.parent in
    let before : Walk = record { caps = c.args.caps.now.caps; keys = c.args.keys.now.items } in
    let now : Walk = record { caps = c.loop-at.caps.caps; keys = c.loop-at.keys.items } in
    let j = c.args.job in
    let at = c.loop-at.at in
    let child = c.child_at-child.result in
    let here : child ≡ get_or children at child = rw c.loop-at.invariant.same at c.child_at-child.ensures.child in
    let taken : take (at + 1) children ≡ take at children ++ child ∷ [] = take_more children at child (omega (arith, c.child_count-at-end.ensures))
    ∙ ap (λ x. take at children ++ x ∷ []) (sym here) in
    record {
      walk = c.reach.ensures.walk
          ∙ (ap (reach j child) c.loop-at.invariant.walk
          ∙ sym (ap (λ ks. in_turn (reach j) ks before) taken ∙ in_turn-append (reach j) (take at children) (child ∷ []) before));
      same = ap (λ (w : Walk). children_at w.caps c.args.parent) c.reach.ensures.walk ∙ (children-reach j child c.args.parent now ∙ c.loop-at.invariant.same);
      rest = c.reach.ensures.rest ∙ rw c.loop-at.invariant.rest refl;
      room = omega (arith, c.reach.ensures.room, c.loop-at.invariant.room);
      links = c.push_reserved.ensures.items
          ∙ (ap (λ ks. ks ++ child ∷ []) c.loop-at.invariant.links
          ∙ (append_assoc c.args.links.now.items (take at children) (child ∷ []) ∙ ap (λ ks. c.args.links.now.items ++ ks) (sym taken)));
      valid = λ all. rw c.push_reserved.ensures.items
          (All-push IsValidKey c.loop-at.links.items child (c.loop-at.invariant.valid all) c.child_at-child.ensures.valid);
      link_capacity = c.push_reserved.ensures.capacity ∙ c.loop-at.invariant.link_capacity;
      capacity = c.reach.ensures.capacity ∙ c.loop-at.invariant.capacity;
    }

pub returns-clause-walk : goal.returns-clause-walk
returns-clause-walk c =
    let children : List KeyName = children_at c.args.caps.now.caps c.args.parent in
    c.loop-at.invariant.walk
    ∙ ap (λ ks. in_turn (reach c.args.job) ks (record { caps = c.args.caps.now.caps; keys = c.args.keys.now.items }))
    (take_all c.loop-at.at children (omega (arith, c.child_count-at-end.ensures)))

pub returns-clause-links : goal.returns-clause-links
returns-clause-links c =
    let children : List KeyName = children_at c.args.caps.now.caps c.args.parent in
    c.loop-at.invariant.links ∙ ap (λ ks. c.args.links.now.items ++ ks) (take_all c.loop-at.at children (omega (arith, c.child_count-at-end.ensures)))

pub push_reserved-requires : goal.push_reserved-requires
push_reserved-requires c =
    let children : List KeyName = children_at c.args.caps.now.caps c.args.parent in
    omega (
      arith,
      c.child_count-at-end.ensures,
      ap length c.loop-at.invariant.links,
      length-append c.args.links.now.items (take c.loop-at.at children),
      length-take-le c.loop-at.at children (omega (arith, c.child_count-at-end.ensures)),
      c.requires.link_room,
      c.loop-at.invariant.link_capacity,
    )
