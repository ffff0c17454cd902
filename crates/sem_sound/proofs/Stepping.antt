-- Every act that is locally enabled keeps a side sound.
use Rattle.std.proofs.Common.{◌≡◌, ◌≢◌, ℕ, ◌+◌, sym, ◌<◌, ◌≤◌, ◌&&◌, true, not, List, [], Option, Some, None, is_none, is_some, slice_get, refl, subst, arith}
use Rattle.std.proofs.Common.{◌∙◌}
use Rattle.std.specs.Prelude.{◌==◌, nat_lt}
use Rattle.std.specs.List.{Contains}
use Rattle.std.specs.Option.{option_map, option_map_or}
use Rattle.std.proofs.lemmas.Bool.{and_parts, eqb-true, eqb-false, ltb-true, not-true}
use Rattle.std.proofs.lemmas.List.Elements.{All-contains}
use Rattle.std.proofs.lemmas.Option.{some_pair_parts, slice_get_within, get_or_from_slice_get}
use Rattle.sem_msg.specs.declared.call.Call.{Call}
use Rattle.sem_msg.specs.declared.event.Act.{Act}
use Rattle.sem_msg.specs.declared.event.Act.TheVariants.{Call as Calls, Fetch, Handle, Upcall, Resume, Flush, Kill}
use Rattle.sem_msg.specs.declared.message.Message.{Message}
use Rattle.sem_msg.specs.declared.setup.VpeDecl.{VpeDecl}
use Rattle.sem_msg.specs.declared.state.Ask.{Ask}
use Rattle.sem_msg.specs.declared.state.Parked.{Parked}
use Rattle.sem_msg.specs.Calls.{IsValidCall}
use Rattle.sem_msg.specs.Versions.{most_vpes}
use Rattle.sem_msg.specs.Setup.{Setup, IsSetup, IsVpeDecl}
use Rattle.sem_msg.specs.Lookups.{decl, kernel_of, calls_of}
use Rattle.sem_machine.specs.Sides.{Side, row, parked, is_alive, call_counted, ask_taken, with_inbox, unparked}
use Rattle.sem_machine.specs.Steps.{unshown, Step}
use Rattle.sem_machine.specs.Calls.{call_row}
use Rattle.sem_machine.specs.Upcalls.{ask_decided, upcall_row}
use Rattle.sem_machine.specs.Resumes.{can_resume, resumed, resume_row}
use Rattle.sem_machine.specs.Handles.{handled}
use Rattle.sem_machine.specs.Machine.{next_call, local_step, is_locally_enabled, is_other_kernel}
use Rattle.sem_key.proofs.Members.{found}
use Rattle.sem_machine.specs.Sound.{IsSoundMessage, IsSound, one_if, bit}
use Rattle.sem_sound.specs.SoundWorlds.{IsSoundInput, CountsFit, parked_calls}
use Rattle.sem_machine.specs.Seeded.{is_call}
use Rattle.sem_machine.specs.Ends.{ended}
use Rattle.sem_sound.proofs.Changing.{local-place, counted-sound, counted-pays, taken-sound}
use Rattle.sem_sound.proofs.Holding.{sent-sound, inbox-sound}
use Rattle.sem_sound.proofs.Refusing.{ended-sound}
use Rattle.sem_sound.proofs.Calling.{call_row-sound}
use Rattle.sem_sound.proofs.Answering.{Unanswered, decided-sound, resumed-sound}
use Rattle.sem_sound.proofs.Parking.{NoMore, chained, unparked-but, unparked-no_more, sums-less, sums-but}
use Rattle.sem_sound.proofs.Handling.{handled-sound}

first-among : (xs : List Ask) (a : Ask) → slice_get xs 0 ≡ Some a → Contains xs a
first-among xs a at = (0, slice_get_within xs 0 a at, get_or_from_slice_get xs 0 a a at)

pub none-is : (o : Option Parked) → is_none o ≡ true → o ≡ None
none-is None none = refl
none-is (Some p) none = absurd cc

module _ (T : Setup) (valid : IsSetup T) (i : ℕ) (few : i < T.kernels) where
  -- the calls of a VPE are in their ranges
  pub call-valid : (v n : ℕ) (c : Call) → slice_get (calls_of T v) n ≡ Some c → IsValidCall (most_vpes T.version) c
  call-valid v n c at = from (decl T v) refl at
    where
      from : (o : Option VpeDecl) → decl T v ≡ o → slice_get (option_map_or (λ d. d.calls) o []) n ≡ Some c → IsValidCall (most_vpes T.version) c
      from None none at = let no' = slice_get_within [] n c at in absurd (omega (arith, no'))
      from (Some d) there at =
          let declared : IsVpeDecl T d = All-contains (IsVpeDecl T) T.vpes d valid.vpes (found (λ (x : VpeDecl). x.vpe == v) T.vpes d there).0 in
          All-contains (IsValidCall (most_vpes T.version)) d.calls c declared.calls (n, slice_get_within d.calls n c at, get_or_from_slice_get d.calls n c c at)

  module _ (s : Side) (is : IsSound T i s) where
    -- the side after it is sound; what is answered and parked was parked before, or called now; counts still fit
    abbrev Kept : Act → Step → Type 0
    Kept act x = IsSound T i x.side × (one_if x.outcome.reply + parked_calls x.side ≤ parked_calls s + bit (is_call act)) × (CountsFit s → CountsFit x.side)

    fewer : (t : Side) → IsSound T i t → NoMore s t → parked_calls t ≤ parked_calls s
    fewer t there less = sums-less (λ (p : Option Parked). one_if p) None t.parks s.parks (there.park_places ∙ sym is.park_places) less.0

    -- where nobody is answered
    quiet : (act : Act) (x : Step) → IsSound T i x.side × NoMore s x.side → one_if x.outcome.reply ≡ 0 → Kept act x
    quiet act x both none = (both.0, (let less = fewer x.side both.0 both.1 in omega (arith, less, none)), both.1.1)

    called-sound : (v : ℕ) (input : Option Message) → is_locally_enabled T i s (Calls v) ≡ true → Kept (Calls v) (local_step T i s (Calls v) input)
    unfolding local_step is_locally_enabled
    called-sound v input enabled =
        let one = and_parts (kernel_of T v == i) (is_alive s v && (is_none (parked s v) && is_some (next_call T s v))) enabled in
        let two = and_parts (is_alive s v) (is_none (parked s v) && is_some (next_call T s v)) one.1 in
        let three = and_parts (is_none (parked s v)) (is_some (next_call T s v)) two.1 in
        from (eqb-true (kernel_of T v) i one.0) (none-is (parked s v) three.0) (next_call T s v) refl
      where
        from : kernel_of T v ≡ i → parked s v ≡ None → (o : Option Call) → next_call T s v ≡ o →
            Kept (Calls v) (option_map_or (call_row T i (call_counted v s) v) o (unshown s))
        from local idle None at = (is, omega arith, λ fit. fit)
        from local idle (Some c) at =
            let t : Side = call_counted v s in
            let counted = counted-sound T valid i few None None None None s is v local (slice_get_within (calls_of T v) (row s v).next_call c at) in
            let still : parked t v ≡ None = idle in
            let x : Step = call_row T i t v c in
            let done = call_row-sound T valid i few t counted v local still (counted-pays T valid i few None None None None s is v local) c
            (call-valid v (row s v).next_call c at) in
            let place = local-place T valid i few v local in
            let long = is.park_places in
            let here = done.1.1 in
            let all = sums-but (λ (p : Option Parked). one_if p) None (one_if x.outcome.reply) 1 x.side.parks s.parks v (done.0.park_places
            ∙ sym is.park_places) (omega (arith, place, long)) done.1.0.0 (omega (arith, here)) in
            (done.0, omega (arith, all), done.1.0.1)

    upcalled-sound : (v : ℕ) → kernel_of T v ≡ i → Kept (Upcall v) (upcall_row T i s v)
    unfolding upcall_row
    upcalled-sound v local = from (slice_get (row s v).asks 0) refl
      where
        from : (o : Option Ask) → slice_get (row s v).asks 0 ≡ o → Kept (Upcall v) (option_map_or (λ a. ask_decided T i v a (ask_taken v s)) o (unshown s))
        from None at = (is, omega arith, λ fit. fit)
        from (Some a) at =
            decides a (decided-sound T valid i few (ask_taken v s) (taken-sound T valid i few None None None None s is v local) v local a
            ((is.rows v).asks a (first-among (row s v).asks a at)))
          where
            decides : (a : Ask) → IsSound T i (ask_decided T i v a (ask_taken v s)).side × Unanswered (ask_taken v s) (ask_decided T i v a (ask_taken v s)) →
                Kept (Upcall v) (ask_decided T i v a (ask_taken v s))
            decides a done = quiet (Upcall v) (ask_decided T i v a (ask_taken v s)) (done.0, done.1.0) done.1.1

    went-on : (v : ℕ) → kernel_of T v ≡ i → can_resume (parked s v) ≡ true → Kept (Resume v) (resume_row T s v)
    unfolding resume_row
    went-on v local can =
        let x : Step = resumed T (parked s v) (unparked v s) in
        let done = resumed-sound T valid i few s is v local (parked s v) refl can in
        let unparks = unparked-but s x.side v done.1 in
        let none = unparks.1 in
        let was = can-one (parked s v) can in
        let place = local-place T valid i few v local in
        let long = is.park_places in
        let all = sums-but (λ (p : Option Parked). one_if p) None 1 0 x.side.parks s.parks v (done.0.park_places
        ∙ sym is.park_places) (omega (arith, place, long)) unparks.0.0 (omega (arith, none, was)) in
        let most = reply-most x.outcome.reply in
        (done.0, omega (arith, all, most), unparks.0.1)
      where
        can-one : (p : Option Parked) → can_resume p ≡ true → one_if p ≡ 1
        can-one None can = absurd cc
        can-one (Some p) can = refl

        reply-most : (o : Option ℕ) → one_if o ≤ 1
        reply-most None = omega arith
        reply-most (Some n) = omega arith

    pub step-sound : (act : Act) → is_locally_enabled T i s act ≡ true → (input : Option Message) → IsSoundInput act input →
        Kept act (local_step T i s act input)
    unfolding local_step is_locally_enabled
    step-sound (Calls v) enabled input fits = called-sound v input enabled
    step-sound (Fetch from) enabled input fits =
        let other = and_parts (nat_lt from T.kernels) (not (from == i)) (and_parts (is_other_kernel T i from) (is_none s.inbox) enabled).0 in (
          inbox-sound T valid i few None None None None s is (option_map {U = ℕ × Message} (λ m. (from, m)) input)
              (fetched input fits (ltb-true from T.kernels other.0) (eqb-false from i (not-true (from == i) other.1))),
          omega arith,
          λ fit. fit,
        )
      where
        fetched : (o : Option Message) → IsSoundInput (Fetch from) o → from < T.kernels → from ≢ i → (k : ℕ) (m : Message) →
            option_map {U = ℕ × Message} (λ x. (from, x)) o ≡ Some (k, m) → IsSoundMessage T i k m
        fetched None fits' kernel other k m none = absurd cc
        fetched (Some x) fits' kernel other k m some =
            let parts = some_pair_parts from k x m some in
            subst (λ q. IsSoundMessage T i q m) parts.0 (subst (IsSoundMessage T i from) parts.1 (fits', kernel, other))
    step-sound Handle enabled input fits = from s.inbox refl
      where
        from : (o : Option (ℕ × Message)) → s.inbox ≡ o → Kept Handle (unshown (option_map_or (λ m. handled T i (with_inbox None s) m.0 m.1) o s))
        from None at = (is, omega arith, λ fit. fit)
        from (Some (k, m)) at =
            quiet Handle (unshown (handled T i (with_inbox None s) k m))
            (handled-sound T valid i few (with_inbox None s) (inbox-sound T valid i few None None None None s is None (λ q x none. absurd cc)) k m
            (is.inbox k m at)) refl
    step-sound (Upcall v) enabled input fits =
        upcalled-sound v (eqb-true (kernel_of T v) i (and_parts (kernel_of T v == i) (is_alive s v && is_some (slice_get (row s v).asks 0)) enabled).0)
    step-sound (Resume v) enabled input fits =
        let both = and_parts (kernel_of T v == i) (can_resume (parked s v)) enabled in
        went-on v (eqb-true (kernel_of T v) i both.0) both.1
    step-sound (Flush to) enabled input fits =
        let other = and_parts (nat_lt to T.kernels) (not (to == i)) (and_parts (is_other_kernel T i to) _ enabled).0 in
        (sent-sound T valid i few None None None None s is to (ltb-true to T.kernels other.0), omega arith, λ fit. fit)
    step-sound (Kill v) enabled input fits =
        let ends = ended-sound T valid i few s is v (eqb-true (kernel_of T v) i (and_parts (kernel_of T v == i) _ enabled).0) in
        quiet (Kill v) (unshown (ended T i v s)) (ends.0, chained s (unparked v s) (ended T i v s) (unparked-no_more s v) ends.1) refl
