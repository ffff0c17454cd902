-- A run that goes on by one event at a time.
use Rattle.std.proofs.Common.{◌≡◌, ℕ, zero, suc, ◌+◌, ◌-◌, ◌<◌, ◌%◌, true, List, [], ◌∷◌, ◌++◌, length, Option, Some, None, refl, sym, ◌∙◌, ap, subst, arith}
use Rattle.std.proofs.Common.{length-append, append_assoc, append-nil}
use Rattle.std.proofs.lemmas.Option.{slice_get-get_or, slice_get_within, get_or_from_slice_get}
use Rattle.rand_pcg.specs.Lcg.{Lcg}
use Rattle.rand_pcg.specs.Pcg.{pcg32}
use Rattle.sem_msg.specs.declared.event.Event.{Event}
use Rattle.sem_msg.specs.declared.entry.Entry.{Entry}
use Rattle.sem_msg.specs.Setup.{Setup}
use Rattle.sem_msg.specs.Fabric.{FabricValue}
use Rattle.sem_machine.specs.Machine.{World, after, entry_of, enabled, is_enabled}
use Rattle.sem_machine.specs.Schedules.{world_after}
use Rattle.sem_machine.specs.Living.{IsQuiet}
use Rattle.sem_machine.specs.Seeded.{drain, entry_limit, picked}
use Rattle.sem_machine.proofs.EnabledList.{enabled-exact}
use Rattle.sem_kernel.specs.KernelValue.{KernelValue}
use Rattle.sem_kernel.specs.Worlds.{world_of}
use Rattle.sem_kernel.specs.Standing.{StandsAt}
use Rattle.sem_machine.proofs.Pushing.{world_after-push}
use Rattle.sem_serial.specs.Draining.{drained_on}
use Rattle.sem_serial.specs.Listed.{AreListed}

pub none-left : {X : Type 0} (xs : List X) → length xs ≡ 0 → xs ≡ []
none-left [] none = refl
none-left (x ∷ xs) none = absurd (omega (arith, none))

-- What a word picks.

-- nothing, only where no event is enabled
picked-none : (word : ℕ) (es : List Event) → picked word es ≡ None → es ≡ []
picked-none word [] none = refl
picked-none word (e ∷ es) none =
    let within : word % length (e ∷ es) < length (e ∷ es) = omega arith in
    let some = slice_get-get_or (e ∷ es) (word % length (e ∷ es)) e within in
    absurd (cc)

pub picked-nothing : (word : ℕ) (es : List Event) → es ≡ [] → picked word es ≡ None
picked-nothing word es none = ap (picked word) none

-- one of the enabled events
pub picked-enabled : (T : Setup) (W : World) (word : ℕ) (e : Event) → picked word (enabled T W) ≡ Some e → is_enabled T W e ≡ true
picked-enabled T W word e some =
    let within = slice_get_within (enabled T W) (word % length (enabled T W)) e some in
    (enabled-exact T W e).0 (word % length (enabled T W), within, get_or_from_slice_get (enabled T W) (word % length (enabled T W)) e e some)

-- What the words make.

drain-more : (n : ℕ) (T : Setup) (W : World) (g : Lcg) (e : Event) → 0 < n → picked (pcg32 g).0 (enabled T W) ≡ Some e →
    drain n T W g ≡ entry_of T W e ∷ drain (n - 1) T (after T W e) (pcg32 g).1
unfolding drain
drain-more zero T W g e some_left some = absurd (omega arith)
drain-more (suc n) T W g e some_left some =
    let less : suc n - 1 ≡ n = omega arith in
    rw (some, less) refl

drain-none : (n : ℕ) (T : Setup) (W : World) (g : Lcg) → picked (pcg32 g).0 (enabled T W) ≡ None → drain n T W g ≡ []
unfolding drain
drain-none zero T W g none = refl
drain-none (suc n) T W g none = rw none refl

module _ (T : Setup) (J : List Entry) (g : Lcg) where
  abbrev W : World
  W = world_after T J

  -- one more event
  drained-more : (e : Event) → length J < entry_limit T → picked (pcg32 g).0 (enabled T W) ≡ Some e →
      drained_on T (J ++ entry_of T W e ∷ []) (pcg32 g).1 ≡ drained_on T J g
  drained-more e left some =
      let x : Entry = entry_of T W e in
      let long : length (J ++ x ∷ []) ≡ length J + 1 = length-append J (x ∷ []) in
      let fewer : entry_limit T - length J - 1 ≡ entry_limit T - length (J ++ x ∷ []) = omega arith in
      sym (ap (λ es. J ++ es) (drain-more (entry_limit T - length J) T W g e (omega arith) some)
      ∙ sym (append_assoc J (x ∷ []) (drain (entry_limit T - length J - 1) T (after T W e) (pcg32 g).1))
      ∙ ap (λ n. (J ++ x ∷ []) ++ drain n T (after T W e) (pcg32 g).1) fewer
      ∙ ap (λ V. (J ++ x ∷ []) ++ drain (entry_limit T - length (J ++ x ∷ [])) T V (pcg32 g).1) (sym (world_after-push T J e)))

  -- nothing is to come
  drained-quiet : picked (pcg32 g).0 (enabled T W) ≡ None → J ≡ drained_on T J g
  drained-quiet none = sym (ap (λ es. J ++ es) (drain-none (entry_limit T - length J) T W g none) ∙ append-nil J)

-- A run that began with a journal and a generator, and has come to others.
pub record IsDraining (T : Setup) (P : List Entry) (first : Lcg) (ks : List KernelValue) (f : FabricValue) (lists : List (List Event)) (g : Lcg) : Type 0 where
  pub stand : StandsAt T ks f
  pub listed : AreListed T (world_of ks f) lists
  pub to_come : drained_on T f.journal g ≡ drained_on T P first

module _ (T : Setup) (P : List Entry) (first : Lcg) (ks : List KernelValue) (f : FabricValue) (lists : List (List Event)) (g : Lcg)
    (so_far : IsDraining T P first ks f lists g) where
  picked-after : (o : Option Event) → picked (pcg32 g).0 (enabled T (world_of ks f)) ≡ o → picked (pcg32 g).0 (enabled T (world_after T f.journal)) ≡ o
  picked-after o at = ap (λ V. picked (pcg32 g).0 (enabled T V)) (sym so_far.stand.world) ∙ at

  -- where it stands is a part of the run
  pub part : (J : List Entry) → J ≡ f.journal → (rest : List Entry) × (J ++ rest ≡ drained_on T P first)
  part J same = (
    drain (entry_limit T - length f.journal) T (world_after T f.journal) g,
    ap (λ K. K ++ drain (entry_limit T - length f.journal) T (world_after T f.journal) g) same ∙ so_far.to_come,
  )

  pub quiet-drained : picked (pcg32 g).0 (enabled T (world_of ks f)) ≡ None → f.journal ≡ drained_on T P first
  quiet-drained none = drained-quiet T f.journal g (picked-after None none) ∙ so_far.to_come

  -- no event is enabled then
  pub quiet-after : picked (pcg32 g).0 (enabled T (world_of ks f)) ≡ None → IsQuiet T (world_after T f.journal)
  quiet-after none = subst (IsQuiet T) so_far.stand.world (picked-none (pcg32 g).0 (enabled T (world_of ks f)) none)

  -- one more event
  pub to-come-more : (e : Event) → picked (pcg32 g).0 (enabled T (world_of ks f)) ≡ Some e → length f.journal < entry_limit T → (x : Entry) →
      x ≡ entry_of T (world_of ks f) e → (J : List Entry) → J ≡ f.journal ++ x ∷ [] → (h : Lcg) → h ≡ (pcg32 g).1 → drained_on T J h ≡ drained_on T P first
  to-come-more e some left x made J entered h words =
      ap (λ K. drained_on T K h) (entered ∙ ap (λ y. f.journal ++ y ∷ []) (made ∙ ap (λ V. entry_of T V e) so_far.stand.world))
      ∙ (ap (drained_on T (f.journal ++ entry_of T (world_after T f.journal) e ∷ [])) words
      ∙ (drained-more T f.journal g e left (picked-after (Some e) some) ∙ so_far.to_come))

-- a part of a run that is longer by what is to come
pub part-of : (T : Setup) (P : List Entry) (first : Lcg) (J : List Entry) (g : Lcg) → drained_on T J g ≡ drained_on T P first →
    (rest : List Entry) × (J ++ rest ≡ drained_on T P first)
part-of T P first J g to_come = (drain (entry_limit T - length J) T (world_after T J) g, to_come)
