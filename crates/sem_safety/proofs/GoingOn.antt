-- Each step goes on: what it draws and counts is never taken back, and it brings nobody back to life.
use Rattle.std.proofs.Common.{◌≡◌, ℕ, ◌+◌, ◌≤◌, true, false, List, [], ◌∷◌, ◌++◌, get_or, Option, Some, None, slice_get, refl, sym, ◌∙◌, subst, inl, inr, arith}
use Rattle.std.specs.Option.{option_map_or}
use Rattle.std.proofs.lemmas.Bool.{cases_eq, false_from_ne_true}
use Rattle.sem_key.specs.KeyName.{KeyName}
use Rattle.sem_msg.specs.declared.event.Act.{Act}
use Rattle.sem_msg.specs.declared.event.Act.TheVariants.{Call as Calls, Fetch, Handle, Upcall, Resume, Flush, Kill}
use Rattle.sem_msg.specs.declared.event.Event.{Event}
use Rattle.sem_msg.specs.declared.entry.Entry.{Entry}
use Rattle.sem_msg.specs.declared.message.Message.{Message}
use Rattle.sem_msg.specs.Setup.{Setup}
use Rattle.sem_machine.specs.Sides.{Side, no_side, outbox, is_alive}
use Rattle.sem_machine.specs.Steps.{Step}
use Rattle.sem_machine.specs.Machine.{World, start, side, link, with_side, with_link, local_step, input_of, link_moved, after, entry_of, is_enabled}
use Rattle.sem_machine.specs.Schedules.{IsRun, run, world_after}
use Rattle.sem_key.proofs.Puts.{get_or-put_same, get_or-put_other}
use Rattle.sem_safety.proofs.Layers.{facts, InGrant, InCut}
use Rattle.sem_safety.specs.Onward.{IsOnward, IsOnwardWorld}
use Rattle.sem_safety.proofs.Onwards.{Any, AnyPlace, any_input, onward-same, onward-next, onward}
use Rattle.sem_safety.proofs.KeptSteps.{MayDraw, Dies, local_step-keeps, blind-act, facts-blind}

pub any_grant : (g : Option (KeyName × KeyName)) → InGrant (facts Any AnyPlace) g
any_grant None = tt
any_grant (Some g) = (tt, tt)

pub any_cut : (o : Option KeyName) → InCut (facts Any AnyPlace) o
any_cut None = tt
any_cut (Some k) = tt

pub any_end : (T : Setup) (s : Side) (a : Act) → Dies (facts Any AnyPlace) T s a
any_end T s (Calls v) = λ exits k same. tt
any_end T s (Upcall v) = tt
any_end T s (Fetch from) = tt
any_end T s Handle = tt
any_end T s (Resume v) = tt
any_end T s (Flush to) = tt
any_end T s (Kill v) = λ k same. tt

abbrev pub AnyVpe : ℕ → Type 0
AnyVpe v = Unit {0}

pub may_act : (a : Act) → MayDraw AnyVpe a
may_act (Calls v) = tt
may_act (Fetch from) = tt
may_act Handle = tt
may_act (Upcall v) = tt
may_act (Resume v) = tt
may_act (Flush to) = tt
may_act (Kill v) = tt

pub local_step-onward : (T : Setup) (i : ℕ) (s : Side) (a : Act) (input : Option Message) → IsOnward s (local_step T i s a input).side
local_step-onward T i s a input = local_step-keeps (facts Any AnyPlace) AnyVpe (IsOnward s) (onward s) T i s a input (may_act a) (onward-same s)
    (blind-act (facts Any AnyPlace) (facts-blind Any AnyPlace (λ p k. Unit {0}) (λ k. Unit {0})) T s a) (any_end T s a) (any_input input)
    (any_grant (local_step T i s a input).outcome.grant, λ v n may low below. tt, any_cut (local_step T i s a input).outcome.cut)

-- Worlds.

pub worlds-same : (W : World) → IsOnwardWorld W W
worlds-same W = record { sides = λ i. onward-same (side W i); replies = omega arith }

pub worlds-next : (U V W : World) → IsOnwardWorld U V → IsOnwardWorld V W → IsOnwardWorld U W
worlds-next U V W first second = record {
  sides = λ i. onward-next (side U i) (side V i) (side W i) (first.sides i) (second.sides i);
  replies = let a = first.replies in let b = second.replies in omega arith;
}

-- the links are moved; the sides stay
flushed-sides : (i j : ℕ) (W : World) (front : Option Message) → (option_map_or (λ m. with_link i j (link W i j ++ m ∷ []) W) front W).sides ≡ W.sides
flushed-sides i j W None = refl
flushed-sides i j W (Some m) = refl

pub moved-sides : (i : ℕ) (s : Side) (act : Act) (W : World) → (link_moved i s act W).sides ≡ W.sides
moved-sides i s (Fetch j) W = refl
moved-sides i s (Flush j) W = flushed-sides i j W (slice_get (outbox s j) 0)
moved-sides i s (Calls v) W = refl
moved-sides i s Handle W = refl
moved-sides i s (Upcall v) W = refl
moved-sides i s (Resume v) W = refl
moved-sides i s (Kill v) W = refl

counted : (n : ℕ) (o : Option ℕ) → n ≤ option_map_or (λ code. n + 1) o n
counted n None = omega arith
counted n (Some code) = omega arith

moved-replies : (i : ℕ) (s : Side) (act : Act) (W : World) → (link_moved i s act W).replies ≡ W.replies
moved-replies i s (Fetch j) W = refl
moved-replies i s (Flush j) W = flushed-replies (slice_get (outbox s j) 0)
  where
    flushed-replies : (front : Option Message) → (option_map_or (λ m. with_link i j (link W i j ++ m ∷ []) W) front W).replies ≡ W.replies
    flushed-replies None = refl
    flushed-replies (Some m) = refl
moved-replies i s (Calls v) W = refl
moved-replies i s Handle W = refl
moved-replies i s (Upcall v) W = refl
moved-replies i s (Resume v) W = refl
moved-replies i s (Kill v) W = refl

with_side-onward : (W : World) (i : ℕ) (t : Side) → IsOnward (side W i) t → (j : ℕ) → IsOnward (side W j) (side (with_side i t W) j)
with_side-onward W i t here j = elim (cases_eq j i) [
  | inl same ↦ subst (λ n. IsOnward (side W n) (side (with_side i t W) n)) (sym same)
      (subst (IsOnward (side W i)) (sym (get_or-put_same no_side W.sides i t)) here)
  | inr other ↦ subst (IsOnward (side W j)) (sym (get_or-put_other no_side W.sides i j t other)) (onward-same (side W j))
]

pub after-onward : (T : Setup) (W : World) (e : Event) → IsOnwardWorld W (after T W e)
unfolding after
after-onward T W e =
    let x : Step = local_step T e.kernel (side W e.kernel) e.act (input_of W e.kernel e.act) in
    let V : World = with_side e.kernel x.side W in
    let M : World = link_moved e.kernel (side W e.kernel) e.act V in
    record {
      sides = λ j. subst (λ (sides : List Side). IsOnward (side W j) (get_or sides j no_side)) (sym (moved-sides e.kernel (side W e.kernel) e.act V))
          (with_side-onward W e.kernel x.side (local_step-onward T e.kernel (side W e.kernel) e.act (input_of W e.kernel e.act)) j);
      replies = subst (λ n. W.replies ≤ option_map_or (λ code. n + 1) x.outcome.reply n) (sym (moved-replies e.kernel (side W e.kernel) e.act V))
          (counted W.replies x.outcome.reply);
    }

pub run-onward : (T : Setup) (J : List Entry) (W : World) → IsOnwardWorld W (run T W J)
run-onward T [] W = worlds-same W
run-onward T (e ∷ es) W = worlds-next W (after T W e.event) (run T (after T W e.event) es) (after-onward T W e.event) (run-onward T es (after T W e.event))

pub run-append : (T : Setup) (before later : List Entry) (W : World) → run T W (before ++ later) ≡ run T (run T W before) later
run-append T [] later W = refl
run-append T (e ∷ es) later W = run-append T es later (after T W e.event)

pub dead-later : (T : Setup) (before later : List Entry) (i v : ℕ) → is_alive (side (world_after T before) i) v ≡ false →
    is_alive (side (world_after T (before ++ later)) i) v ≡ false
dead-later T before later i v dead =
    let onward = run-onward T later (world_after T before) in
    let still : is_alive (side (run T (world_after T before) later) i) v ≡ false = false_from_ne_true (is_alive (side (run T (world_after T before) later) i) v)
    (λ lives. let both : false ≡ true = sym dead ∙ (onward.sides i).dead v lives in absurd cc) in
    subst (λ (W : World). is_alive (side W i) v ≡ false) (sym (run-append T before later (start T))) still

-- a run that goes on with an entry makes it where it stands, by an event that is enabled there
pub entry-enabled : (T : Setup) (before : List Entry) (W : World) (e : Entry) (later : List Entry) → IsRun T W (before ++ e ∷ later) →
    IsRun T W before × (is_enabled T (run T W before) e.event ≡ true) × (e ≡ entry_of T (run T W before) e.event)
unfolding IsRun
entry-enabled T [] W e later (allowed, made, rest) = (tt, allowed, made)
entry-enabled T (b ∷ bs) W e later (allowed, made, rest) = let inner = entry-enabled T bs (after T W b.event) e later rest in
    ((allowed, made, inner.0), inner.1, inner.2)

-- and is a run up to that entry
pub run-prefix : (T : Setup) (before : List Entry) (later : List Entry) (e : Entry) (W : World) → IsRun T W (before ++ e ∷ later) → IsRun T W (before ++ e ∷ [])
unfolding IsRun
run-prefix T [] later e W (allowed, made, rest) = (allowed, made, tt)
run-prefix T (b ∷ bs) later e W (allowed, made, rest) = (allowed, made, run-prefix T bs later e (after T W b.event) rest)
