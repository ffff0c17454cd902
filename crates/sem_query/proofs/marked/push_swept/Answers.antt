use Rattle.std.proofs.Common.{◌≡◌, ℕ, List, [], Option, Some, None, map, sym, subst, ◌∙◌, append-nil}
use Rattle.std.specs.List.{filter}
use Rattle.sem_key.specs.KeyName.{KeyName}
use Rattle.sem_query.specs.declared.marked.Token.{Token}
use Rattle.sem_query.specs.MarkedKeys.{IsBounded, is_swept, AreParted}
use Rattle.sem_query.proofs.Parting.{parted-none, parted-open, parted-swept}
use Rattle.sem_query.proofs.marked.push_swept.Goals as goal
use Rattle.sem_query.proofs.marked.push_swept.Goals.{then-is_bounded, else-is_bounded}

pub returns-in_default : goal.returns-in_default
returns-in_default c = (
  [],
  sym (append-nil c.args.moved.now.items),
  subst (λ (o : Option Token). AreParted c.args.setup.now c.args.world.now.world c.args.entry.now o c.args.marked.now.items c.args.marked.now.items [])
      (sym c.in_default.is)
      (parted-none c.args.setup.now c.args.world.now.world c.args.entry.now c.args.marked.now.items),
)

pub returns-then-is_marked_by : goal.returns-then-is_marked_by
returns-then-is_marked_by c = (
  [],
  sym (append-nil c.args.moved.now.items),
  subst (λ (o : Option Token). AreParted c.args.setup.now c.args.world.now.world c.args.entry.now o c.args.marked.now.items c.args.marked.now.items [])
      (sym c.in-Some.is)
      (parted-open c.args.setup.now c.args.world.now.world c.args.entry.now c.args.marked.now.items c.in-Some.token (sym c.is_marked_by.ensures
      ∙ c.if-is_marked_by.true)),
)

pub returns : goal.returns
returns c =
    let T = c.args.setup.now in
    let V = c.args.world.now.world in
    let e = c.args.entry.now in
    let only : Option ℕ = c.if-is_bounded.only in
    let gone : List KeyName = map (λ (p : KeyName × ℕ). p.0) (filter (is_swept T V e.event.kernel only) c.args.marked.now.items) in
    let alone : (j : ℕ) → only ≡ Some j → (j ≡ c.in-Some.token.job) × IsBounded T V c.in-Some.token = λ j is. elim c.if-is_bounded.branch [
      | then-is_bounded w ↦
          let same : Some c.in-Some.token.job ≡ Some j = sym w.only-is ∙ is in
          (the_same c.in-Some.token.job j same, c.is_bounded.ensures w.if-is_bounded.true)
      | else-is_bounded w ↦ let clash : ◌≡◌ {A = Option ℕ} None (Some j) = sym w.only-is ∙ is in absurd cc
    ] in (
      gone,
      c.in_ok-part.ensures.gone,
      subst (λ (o : Option Token). AreParted T V e o c.args.marked.now.items c.part.new.marked.items gone) (sym c.in-Some.is)
          (parted-swept T V e c.args.marked.now.items c.in-Some.token only alone c.part.new.marked.items c.in_ok-part.ensures.kept),
    )
  where
    the_same : (a j : ℕ) → Some a ≡ Some j → j ≡ a
    the_same a j same = cc
