use Rattle.std.proofs.Common.{◌≡◌, ℕ, ◌+◌, [], ◌∷◌, ◌++◌, take, not, map, get_or, refl, sym, ◌∙◌, ap, arith}
use Rattle.std.specs.List.{All}
use Rattle.std.proofs.lemmas.List.{take_more, take_all}
use Rattle.std.proofs.lemmas.List.Elements.{All-filter}
use Rattle.sem_key.specs.Lists.{in_turn}
use Rattle.sem_key.specs.KeyName.{KeyName}
use Rattle.sem_key.specs.CapList.{is_marked_by, marked_by}
use Rattle.sem_key.proofs.InTurns.{in_turn-append}
use Rattle.sem_msg.specs.VpeRows.{freed}
use Rattle.sem_caps.specs.CapStore.{key_and_selector}
use Rattle.sem_vpe.specs.VpeTable.{VpeTable, IsOurs}
use Rattle.sem_machine.specs.Revokes.{all_freed}
use Rattle.sem_sweep.specs.Sweeping.{pairs_freed, CanSweepCap}
use Rattle.sem_sweep.proofs.Swept.{filter-length, pairs_freed-caps, pairs-ours}
use Rattle.sem_sweep.proofs.sweeps.remove_caps.Goals as goal

pub remove_marked_of-requires : goal.remove_marked_of-requires
remove_marked_of-requires c = omega (
  arith,
  filter-length (is_marked_by c.args.job) c.args.caps.now.caps,
  c.requires.space,
  c.clear.ensures.len,
  c.clear.ensures.capacity,
)

pub loop-at-init : goal.loop-at-init
unfolding in_turn
loop-at-init c = record { rows = refl; ours = refl }

pub release-requires : goal.release-requires
release-requires c =
    let pair = c.index.result.now in
    let items = c.remove_marked_of.new.gone.items in
    let gone : items ≡ map key_and_selector (marked_by c.args.job c.args.caps.now.caps) = c.remove_marked_of.ensures.gone ∙ rw c.clear.ensures.items refl in
    let all : All (λ (q : KeyName × ℕ). IsOurs c.args.vpes.now q.0.vpe) items =
    rw gone (pairs-ours c.args.vpes.now (is_marked_by c.args.job) c.args.caps.now.caps c.requires.ours) in
    let here : IsOurs c.args.vpes.now (get_or items c.loop-at.at pair).0.vpe = all c.loop-at.at pair (omega (arith, c.len-at-end.ensures)) in
    let ours : IsOurs c.args.vpes.now pair.0.vpe = rw (← c.index.ensures) at here in
    let key : c.key.inside.vpe ≡ pair.0.vpe = ap (λ (k : KeyName). k.vpe) c.key.view_is in
    rw (key, c.loop-at.invariant.ours) ours

pub loop-at-preserved : goal.loop-at-preserved
unfolding in_turn
loop-at-preserved c =
    let pair = c.index.result.now in
    let items = c.remove_marked_of.new.gone.items in
    let at = c.loop-at.at in
    let rows = c.args.vpes.now.rows in
    let key : c.key.inside.vpe ≡ pair.0.vpe = ap (λ (k : KeyName). k.vpe) c.key.view_is in
    let taken : take (at + 1) items ≡ take at items ++ pair ∷ [] = take_more items at pair (omega (arith, c.len-at-end.ensures))
    ∙ ap (λ x. take at items ++ x ∷ []) (sym c.index.ensures) in
    record {
      rows = ap (λ (t : VpeTable). t.rows) c.release.ensures
          ∙ (ap (λ v. freed v pair.1 c.loop-at.vpes.rows) key
          ∙ (ap (freed pair.0.vpe pair.1) c.loop-at.invariant.rows
          ∙ sym (ap (λ ps. pairs_freed ps rows) taken ∙ in_turn-append (λ p rs. freed p.0.vpe p.1 rs) (take at items) (pair ∷ []) rows)));
      ours = ap (λ (t : VpeTable). t.ours) c.release.ensures ∙ c.loop-at.invariant.ours;
    }

pub returns-clause-row : goal.returns-clause-row
returns-clause-row c s =
    let items = c.remove_marked_of.new.gone.items in
    let rows = c.args.vpes.now.rows in
    let gone : items ≡ map key_and_selector (marked_by c.args.job c.args.caps.now.caps) = c.remove_marked_of.ensures.gone ∙ rw c.clear.ensures.items refl in
    let all : take c.loop-at.at items ≡ items = take_all c.loop-at.at items (omega (arith, c.len-at-end.ensures)) in
    let freed_all : c.loop-at.vpes.rows ≡ all_freed (marked_by c.args.job c.args.caps.now.caps) rows = c.loop-at.invariant.rows
    ∙ (ap (λ ps. pairs_freed ps rows) (all ∙ gone) ∙ pairs_freed-caps (marked_by c.args.job c.args.caps.now.caps) rows) in
    rw (c.remove_marked_of.ensures.caps, freed_all) refl

pub returns-clause-kept : goal.returns-clause-kept
returns-clause-kept c T i can =
    rw c.remove_marked_of.ensures.caps (All-filter (λ x. not (is_marked_by c.args.job x)) (CanSweepCap T i) c.args.caps.now.caps can)

pub returns-clause-count : goal.returns-clause-count
returns-clause-count c = rw c.remove_marked_of.ensures.caps (filter-length (λ x. not (is_marked_by c.args.job x)) c.args.caps.now.caps)
