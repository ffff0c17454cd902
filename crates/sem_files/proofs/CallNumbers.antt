-- How many calls there are with one command more.
use Rattle.std.proofs.Common.{◌≡◌, ℕ, ◌+◌, ◌≤◌, ◌==◌, inl, inr, Bool, true, false, true≢false, cond, ◌||◌, List, [], ◌∷◌, ◌++◌, length, length-append, refl}
use Rattle.std.proofs.Common.{sym, ◌∙◌, arith, append_assoc, append-nil, eq-eqb, ne_eqb}
use Rattle.std.proofs.lemmas.Bool.{cases_Bool}
use Rattle.sem_files.specs.declared.files.Command.{Command}
use Rattle.sem_files.specs.Files.{Files, is_client, extents_of}
use Rattle.sem_files.specs.Compiled.{calls_of_command, calls_from, client_calls}
use Rattle.sem_files.specs.FileContext.{with_command, call_number}
use Rattle.sem_files.specs.OneMore.{is_begun, new_calls}
use Rattle.sem_files.proofs.Lists.{any_more, sum_of-one}

-- where each file has as many extents, a client makes the same calls
pub calls_from-same : (F G : Files) (v : ℕ) (before cs : List Command) → ((f : ℕ) → extents_of G f ≡ extents_of F f) →
    calls_from G v before cs ≡ calls_from F v before cs
unfolding calls_from
calls_from-same F G v before [] same = refl
calls_from-same F G v before (c ∷ cs) same =
    rw (same _, calls_from-same F G v (before ++ c ∷ []) cs same) refl

-- the calls for one command more come last
calls_from-more : (F : Files) (v : ℕ) (before cs : List Command) (c : Command) →
    calls_from F v before (cs ++ c ∷ []) ≡ calls_from F v before cs ++ cond (c.client == v) (calls_of_command F (before ++ cs) c) []
unfolding calls_from
calls_from-more F v before [] c = rw (append-nil before) (append-nil _)
calls_from-more F v before (d ∷ cs) c =
    let here : (before ++ d ∷ []) ++ cs ≡ before ++ d ∷ cs = append_assoc before (d ∷ []) cs in
    rw (calls_from-more F v (before ++ d ∷ []) cs c, here, append_assoc) refl

-- a client that did nothing made no calls
calls_from-none : (F : Files) (v : ℕ) (before cs : List Command) → is_begun cs v ≡ false → calls_from F v before cs ≡ []
unfolding calls_from
calls_from-none F v before [] none = refl
calls_from-none F v before (c ∷ cs) none =
    elim (cases_Bool (c.client == v)) [
      | inl own ↦ absurd (true≢false (rw own at none))
      | inr other ↦ rw (other, calls_from-none F v (before ++ c ∷ []) cs (rw other at none)) refl
    ]

-- the calls of a client, counted
counted : (F : Files) (v : ℕ) → length (client_calls F v) ≡ cond (is_begun F.commands v) 1 0 + length (calls_from F v [] F.commands)
counted F v =
    elim (cases_Bool (is_begun F.commands v)) [
      | inl begun ↦ rw begun (omega arith)
      | inr none ↦ rw (none, calls_from-none F v [] F.commands none) refl
    ]

-- the commands of a client with one more
pub calls_more : (F : Files) (v : ℕ) (c : Command) → calls_from (with_command F c) v [] (F.commands ++ c ∷ []) ≡ calls_from F v [] F.commands
    ++ cond (c.client == v) (calls_of_command F F.commands c) []
calls_more F v c = calls_from-same F (with_command F c) v [] (F.commands ++ c ∷ []) (λ f. refl) ∙ calls_from-more F v [] F.commands c

-- the other clients make the calls they made
others : (F : Files) (c : Command) (v : ℕ) → (v ≡ c.client → ⊥) → length (client_calls (with_command F c) v) ≡ length (client_calls F v)
others F c v other =
    let no' : (c.client == v) ≡ false = ne_eqb c.client v (λ is. other (sym is)) in
    let begun : is_begun (F.commands ++ c ∷ []) v ≡ is_begun F.commands v = any_more (λ d. d.client == v) F.commands c
    ∙ (rw no' (or_false (is_begun F.commands v))) in
    let calls : calls_from (with_command F c) v [] (F.commands ++ c ∷ []) ≡ calls_from F v [] F.commands = calls_more F v c ∙ (rw (no', append-nil) refl) in
    counted (with_command F c) v ∙ (rw (begun, calls) (sym (counted F v)))
  where
    or_false : (b : Bool) → (b || false) ≡ b
    or_false true = refl
    or_false false = refl

-- the client itself makes those of the command too
own : (F : Files) (c : Command) → length (client_calls (with_command F c) c.client) ≡ length (client_calls F c.client) + new_calls F c
own F c =
    let v : ℕ = c.client in
    let yes' : (c.client == v) ≡ true = eq-eqb v v refl in
    let begun : is_begun (F.commands ++ c ∷ []) v ≡ true = any_more (λ d. d.client == v) F.commands c ∙ (rw yes' (or_true (is_begun F.commands v))) in
    let calls : calls_from (with_command F c) v [] (F.commands ++ c ∷ []) ≡ calls_from F v [] F.commands ++ calls_of_command F F.commands c = calls_more F v c
    ∙ (rw yes' refl) in
    counted (with_command F c) v ∙ (rw (begun, calls, length-append, counted F v) (sums (is_begun F.commands v) _ _))
  where
    or_true : (b : Bool) → (b || true) ≡ true
    or_true true = refl
    or_true false = refl

    sums : (b : Bool) (m n : ℕ) → 1 + (m + n) ≡ (cond b 1 0 + m) + (cond b 0 1 + n)
    sums true m n = omega arith
    sums false m n = omega arith

-- one command more of a declared client
pub call_number-more : (F : Files) (c : Command) → is_client F c.client ≡ true → 1 ≤ c.client → c.client ≤ 63 →
    call_number (with_command F c) ≡ call_number F + new_calls F c
call_number-more F c known low high =
    sum_of-one (λ v. length (client_calls F v)) (λ v. length (client_calls (with_command F c) v)) (is_client F) c.client (new_calls F c) 1 63 known low
    (omega arith) (others F c) (own F c)
