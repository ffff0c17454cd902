-- Each reply is told by the kernel of the VPE that it answers; so the part of that kernel tells the codes to a VPE.
use Rattle.std.proofs.Common.{◌≡◌, ◌≢◌, ℕ, ◌&&◌, Bool, true, List, [], ◌∷◌, ◌++◌, map, filter, slice_get, Option, Some, None, refl, sym, ◌∙◌, ap, subst, inl}
use Rattle.std.proofs.Common.{inr, eq-eqb}
use Rattle.std.specs.Prelude.{◌==◌, nat_lt, IfSome, is_none, is_some}
use Rattle.std.specs.List.{All, cons_option}
use Rattle.std.specs.Option.{option_map}
use Rattle.std.proofs.lemmas.Bool.{cases_eq, cond-true, cond-false, ne_eqb, and_parts, eqb-true}
use Rattle.std.proofs.lemmas.List.{map-append}
use Rattle.std.proofs.lemmas.List.Elements.{All-nil, All-cons, All-head, All-tail, filter-append, filter_map-append}
use Rattle.sem_msg.specs.declared.event.Act.{Act}
use Rattle.sem_msg.specs.declared.event.Act.TheVariants.{Call as Calls, Fetch, Handle, Upcall, Resume, Flush, Kill}
use Rattle.sem_msg.specs.declared.event.Event.{Event}
use Rattle.sem_msg.specs.declared.entry.Entry.{Entry}
use Rattle.sem_msg.specs.declared.entry.Reply.{Reply}
use Rattle.sem_msg.specs.declared.message.Message.{Message}
use Rattle.sem_msg.specs.Setup.{Setup}
use Rattle.sem_msg.specs.Journal.{part, replies}
use Rattle.sem_msg.specs.Lookups.{kernel_of}
use Rattle.sem_machine.specs.Sides.{Side, row, parked, is_alive, ask_taken}
use Rattle.sem_machine.specs.Steps.{Step, unshown}
use Rattle.sem_machine.specs.Resumes.{can_resume}
use Rattle.sem_machine.specs.Upcalls.{ask_decided, upcall_row}
use Rattle.sem_machine.specs.Machine.{World, start, side, after, next_call, local_step, local_entry, input_of, is_allowed, is_enabled, is_locally_enabled}
use Rattle.sem_machine.specs.Machine.{entry_of}
use Rattle.sem_machine.specs.Schedules.{IsRun, IsSchedule}
use Rattle.sem_machine.proofs.Folds.{option-keeps}
use Rattle.sem_safety.proofs.Skeleton.{decided-by}
use Rattle.sem_histories.specs.Outcomes.{codes_to}

-- an upcall answers no call
upcall-silent : (T : Setup) (i u : ℕ) (s : Side) → (upcall_row T i s u).outcome.reply ≡ None
unfolding upcall_row
upcall-silent T i u s = option-keeps (λ (x : Step). x.outcome.reply ≡ None) (λ a. ask_decided T i u a (ask_taken u s)) (slice_get (row s u).asks 0) (unshown s)
    (λ a there. decided-by (λ (x : Step). x.outcome.reply ≡ None) (λ w x is. is) (λ w x is. is) (λ w x is. is) T i u a (ask_taken u s)
    (record {
      nothing = refl;
      refused = λ code. refl;
      given = λ place target p of. refl;
      here = λ parent object sel of. refl;
      prepared = λ parent object sel of. refl;
    }))
    refl

module _ (T : Setup) where
  -- if the entry has a reply, its kernel is that of the VPE that is answered
  abbrev AnswersItsOwn : Entry → Type 0
  AnswersItsOwn e = IfSome e.reply (λ r. kernel_of T r.vpe ≡ e.event.kernel)

  by_code : (i v : ℕ) (o : Option ℕ) → kernel_of T v ≡ i →
      IfSome (option_map (λ code. record { vpe = v; code = code }) o) (λ (r : Reply). kernel_of T r.vpe ≡ i)
  by_code i v None own = tt
  by_code i v (Some code) own = own

  entry-own : (i : ℕ) (s : Side) (a : Act) (input : Option Message) → is_locally_enabled T i s a ≡ true → AnswersItsOwn (local_entry T i s a input)
  unfolding is_locally_enabled local_entry local_step
  entry-own i s (Calls v) input enabled =
      by_code i v (local_step T i s (Calls v) input).outcome.reply
      (eqb-true (kernel_of T v) i (and_parts (kernel_of T v == i) (is_alive s v && (is_none (parked s v) && is_some (next_call T s v))) enabled).0)
  entry-own i s (Resume v) input enabled =
      by_code i v (local_step T i s (Resume v) input).outcome.reply
      (eqb-true (kernel_of T v) i (and_parts (kernel_of T v == i) (can_resume (parked s v)) enabled).0)
  entry-own i s (Upcall v) input enabled = subst (λ o. IfSome (option_map (λ code. record { vpe = 0; code = code }) o) (λ (r : Reply). kernel_of T r.vpe ≡ i))
      (sym (upcall-silent T i v s)) tt
  entry-own i s Handle input enabled = tt
  entry-own i s (Fetch from) input enabled = tt
  entry-own i s (Flush to) input enabled = tt
  entry-own i s (Kill v) input enabled = tt

  event-own : (W : World) (e : Event) → is_enabled T W e ≡ true → AnswersItsOwn (entry_of T W e)
  unfolding is_enabled entry_of
  event-own W e enabled =
      let both = (and_parts (nat_lt e.kernel T.kernels) (is_locally_enabled T e.kernel (side W e.kernel) e.act && is_allowed T W e.kernel e.act) enabled).1 in
      entry-own e.kernel (side W e.kernel) e.act (input_of W e.kernel e.act)
      (and_parts (is_locally_enabled T e.kernel (side W e.kernel) e.act) (is_allowed T W e.kernel e.act) both).0

  run-own : (W : World) (J : List Entry) → IsRun T W J → All AnswersItsOwn J
  unfolding IsRun
  run-own W [] runs = All-nil AnswersItsOwn
  run-own W (e ∷ J) (enabled, made, rest) = All-cons AnswersItsOwn e J (subst AnswersItsOwn (sym made) (event-own W e.event enabled))
      (run-own (after T W e.event) J rest)

-- the codes of two journals in a row
pub codes-append : (J K : List Entry) (v : ℕ) → codes_to (J ++ K) v ≡ codes_to J v ++ codes_to K v
codes-append J K v =
    let to_v : Reply → Bool = λ r. r.vpe == v in
    ap (λ rs. map (λ (r : Reply). r.code) (filter to_v rs)) (filter_map-append (λ (e : Entry). e.reply) J K)
    ∙ (ap (λ rs. map (λ (r : Reply). r.code) rs) (filter-append to_v (replies J) (replies K))
    ∙ map-append (λ (r : Reply). r.code) (filter to_v (replies J)) (filter to_v (replies K)))

-- an entry of another kernel has no code for the VPE
others-silent : (T : Setup) (e : Entry) (v : ℕ) → AnswersItsOwn T e → e.event.kernel ≢ kernel_of T v → codes_to (e ∷ []) v ≡ []
others-silent T e v own apart = by_reply e.reply own
  where
    by_reply : (o : Option Reply) → IfSome o (λ r. kernel_of T r.vpe ≡ e.event.kernel) →
        map (λ (r : Reply). r.code) (filter (λ r. r.vpe == v) (cons_option o [])) ≡ []
    by_reply None is = refl
    by_reply (Some r) is =
        ap (λ rs. map (λ (x : Reply). x.code) rs) (cond-false (r.vpe == v) (r ∷ []) [] (ne_eqb r.vpe v (λ same. apart (sym is ∙ ap (kernel_of T) same))))

codes-own : (T : Setup) (J : List Entry) (v : ℕ) → All (AnswersItsOwn T) J → codes_to J v ≡ codes_to (part J (kernel_of T v)) v
codes-own T [] v own = refl
codes-own T (e ∷ J) v own =
    let k : ℕ = kernel_of T v in
    let rest = codes-own T J v (All-tail (AnswersItsOwn T) e J own) in
    codes-append (e ∷ []) J v ∙ elim (cases_eq e.event.kernel k) [
      | inl same ↦ ap (λ cs. codes_to (e ∷ []) v ++ cs) rest
          ∙ (sym (codes-append (e ∷ []) (part J k) v)
          ∙ ap (λ L. codes_to L v) (sym (cond-true (e.event.kernel == k) (e ∷ part J k) (part J k) (eq-eqb e.event.kernel k same))))
      | inr apart ↦ ap (λ cs. cs ++ codes_to J v) (others-silent T e v (All-head (AnswersItsOwn T) e J own) apart)
          ∙ (rest ∙ ap (λ L. codes_to L v) (sym (cond-false (e.event.kernel == k) (e ∷ part J k) (part J k) (ne_eqb e.event.kernel k apart))))
    ]

-- the codes to a VPE are told by the part of its kernel
pub codes-parts : (T : Setup) (J : List Entry) (v : ℕ) → IsSchedule T J → codes_to J v ≡ codes_to (part J (kernel_of T v)) v
codes-parts T J v runs = codes-own T J v (run-own T (start T) J runs)
