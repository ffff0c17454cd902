-- Each denial of a schedule is explained: its code has a name, its VPE a last call, and some entry is the first after which that call is parked as it is just
-- before the reply.
use Rattle.std.proofs.Common.{◌≡◌, ℕ, zero, suc, ◌+◌, ◌≤◌, ◌<◌, ◌≢◌, ◌-◌, true, List, [], ◌∷◌, slice_get, length, Option, Some, None, refl, sym, ap, ◌∙◌, subst}
use Rattle.std.proofs.Common.{inl, inr, arith}
use Rattle.std.specs.Prelude.{◌==◌}
use Rattle.std.proofs.lemmas.Bool.{cases_eq, cases_lt, eqb-true, agree_below_at}
use Rattle.std.proofs.lemmas.Option.{same_Some, slice_get_within}
use Rattle.sem_msg.specs.declared.code.Code.{Code}
use Rattle.sem_msg.specs.Codes.{code_number}
use Rattle.sem_msg.specs.declared.entry.Entry.{Entry}
use Rattle.sem_msg.specs.declared.entry.Reply.{Reply}
use Rattle.sem_msg.specs.Setup.{Setup, IsSetup}
use Rattle.sem_machine.specs.Schedules.{IsSchedule}
use Rattle.sem_query.specs.Denials.{IsAt, IsCallAt, IsLastCall, state_after, IsParkedAlike, Settles, denied_line, none_line, IsDenied}
use Rattle.sem_query.specs.Denials.Settles.{at_once, by_parking}
use Rattle.sem_query.specs.Denials.IsDenied.{denied, not_denied}
use Rattle.sem_query.proofs.OneText.{code_of}
use Rattle.sem_query.proofs.Replied.{is-call, reply-called}
use Rattle.sem_query.proofs.ReplyCodes.{reply-small}
use Rattle.sem_query.proofs.SameStates.{Decided, same-state}

-- each number up to 15 is that of a code
code-named : (n : ℕ) → n ≤ 15 → (code : Code) × (n ≡ code_number code)
code-named n small =
    (code_of n, eqb-true n (code_number (code_of n)) (agree_below_at (λ m. m == code_number (code_of m)) (λ m. true) 16 n refl (omega (arith, small))))

-- The last call.

is-call-at : (J : List Entry) (v n : ℕ) → Decided (IsCallAt J v n)
is-call-at J v n = from (slice_get J n) refl
  where
    from : (o : Option Entry) → slice_get J n ≡ o → Decided (IsCallAt J v n)
    from None none = inr (λ call. let same : None ≡ Some call.0 = sym none ∙ call.1 in absurd cc)
    from (Some e) there = elim (is-call e.event.act v) [
      | inl act ↦ inl (e, there, act)
      | inr other ↦ inr (λ call. other (ap (λ (x : Entry). x.event.act) (same_Some e call.0 (sym there ∙ call.1)) ∙ call.2))
    ]

-- a VPE that made a call has a last one
last-call : (J : List Entry) (v n b : ℕ) → b ≤ n → IsCallAt J v b → (l : ℕ) × IsLastCall J v n l
last-call J v zero b by call = (b, record { by_then = by; call = call; last = λ m behind within. absurd (omega arith) })
last-call J v (suc n) b by call = elim (is-call-at J v (suc n)) [
  | inl here ↦ (suc n, record { by_then = omega arith; call = here; last = λ m behind within. absurd (omega arith) })
  | inr other ↦
      let earlier : b ≢ suc n = λ same. other (subst (IsCallAt J v) same call) in
      let l = last-call J v n b (omega (arith, by, earlier)) call in (
        l.0,
        record {
          by_then = let early = l.1.by_then in omega (arith, early);
          call = l.1.call;
          last = λ m behind within. elim (cases_eq m (suc n)) [
            | inl same ↦ λ at. other (subst (IsCallAt J v) same at)
            | inr differs ↦ l.1.last m behind (omega (arith, within, differs))
          ];
        },
      )
]

-- The first entry.

-- the first number from b on of which P holds
pub record IsFirst (P : ℕ → Type 0) (b i : ℕ) : Type 0 where
  pub from : b ≤ i
  pub holds : P i
  pub first : (m : ℕ) → b ≤ m → m < i → ¬ P m

-- where P holds of the number that is so many more than b, there is a first one up to it
first-of : (P : ℕ → Type 0) → ((m : ℕ) → Decided (P m)) → (more b : ℕ) → P (b + more) → (i : ℕ) × (i ≤ b + more) × IsFirst P b i
first-of P decide zero b there =
    let same : b + 0 ≡ b = omega arith in
    (b, omega arith, record { from = omega arith; holds = subst P same there; first = λ m from before. absurd (omega arith) })
first-of P decide (suc more) b there = elim (decide b) [
  | inl here ↦ (b, omega arith, record { from = omega arith; holds = here; first = λ m from before. absurd (omega arith) })
  | inr other ↦
      let same : b + suc more ≡ suc b + more = omega arith in
      let next = first-of P decide more (suc b) (subst P same there) in (
        next.0,
        (let within = next.1 in omega (arith, within)),
        record {
          from = let later = next.2.from in omega (arith, later);
          holds = next.2.holds;
          first = λ m from before. elim (cases_eq m b) [
            | inl is ↦ λ at. other (subst P is at)
            | inr differs ↦ next.2.first m (omega (arith, from, differs)) before
          ];
        },
      )
]

-- the entry of a number within a journal
pub entry-at : (J : List Entry) (i : ℕ) → i < length J → (e : Entry) × IsAt J i e
entry-at [] i within = absurd (omega arith)
entry-at (x ∷ xs) zero within = (x, refl)
entry-at (x ∷ xs) (suc i) within = entry-at xs i (omega (arith, within))

module _ (T : Setup) (valid : IsSetup T) (J : List Entry) (runs : IsSchedule T J) where
  -- an entry that settles, among those up to the reply
  settled : (n : ℕ) (e : Entry) (r : Reply) → IsAt J n e → e.reply ≡ Some r → (i : ℕ) × (i ≤ n) × Settles T J r.vpe n i
  settled n e r there replies =
      let called = reply-called T valid J runs n e r there replies in
      let call = last-call J r.vpe n called.0 called.1 called.2 in
      elim (cases_eq call.0 n) [
        | inl same ↦ (n, omega arith, at_once (subst (IsLastCall J r.vpe n) same call.1))
        | inr other ↦ parked-first call.0 call.1 (let by = call.1.by_then in omega (arith, by, other))
      ]
    where
      parked-first : (b : ℕ) → IsLastCall J r.vpe n b → b < n → (i : ℕ) × (i ≤ n) × Settles T J r.vpe n i
      parked-first b call early =
          let more : ℕ = n - suc b in
          let last : b + more + 1 ≡ n = omega arith in
          let found = first-of (IsParkedAlike T J r.vpe n) (λ m. same-state (state_after T J r.vpe (m + 1)) (state_after T J r.vpe n)) more b
          (ap (state_after T J r.vpe) last) in
          (found.0, (let within = found.1 in omega (arith, within)), by_parking b found.0 call early found.2.from found.2.holds found.2.first)

  -- to the question why an entry denies there is an answer
  pub explained : (n : ℕ) → (t : List ℕ) × IsDenied T J n t
  explained n = from (slice_get J n) refl
    where
      by_reply : (e : Entry) → IsAt J n e → (o : Option Reply) → e.reply ≡ o → (t : List ℕ) × IsDenied T J n t
      by_reply e there None none = (
        none_line,
        not_denied (λ r denies.
            let same : e ≡ denies.0 = same_Some e denies.0 (sym there ∙ denies.1) in
            let clash : None ≡ Some r = sym none ∙ (ap (λ (x : Entry). x.reply) same ∙ denies.2) in
            absurd cc),
      )
      by_reply e there (Some r) some = elim (cases_lt 0 r.code) [
        | inl denies ↦
            let code = code-named r.code (reply-small T valid J runs n e there r some) in
            let place = settled n e r there some in
            let entry = entry-at J place.0 (let within = slice_get_within J n e there in let early = place.1 in omega (arith, within, early)) in
            (denied_line code.0 place.0 entry.0, denied r code.0 place.0 entry.0 (e, there, some, denies) code.1 place.2 entry.1)
        | inr small ↦ (
          none_line,
          not_denied (λ r' denies.
              let same : e ≡ denies.0 = same_Some e denies.0 (sym there ∙ denies.1) in
              let reply : r ≡ r' = same_Some r r' (sym some ∙ (ap (λ (x : Entry). x.reply) same ∙ denies.2)) in
              let code : r.code ≡ r'.code = ap (λ (x : Reply). x.code) reply in
              let above = denies.3 in
              omega (arith, small, code, above)),
        )
      ]

      from : (o : Option Entry) → slice_get J n ≡ o → (t : List ℕ) × IsDenied T J n t
      from None none = (none_line, not_denied (λ r denies. let clash : None ≡ Some denies.0 = sym none ∙ denies.1 in absurd cc))
      from (Some e) there = by_reply e there e.reply refl
