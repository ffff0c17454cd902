-- A place without a fault holds the word of a value in range.
use Rattle.std.proofs.Common.{◌≡◌, ℕ, zero, suc, ◌-◌, ◌<◌, ◌≤◌, ◌^◌, true, true≢false, List, [], ◌∷◌, Option, Some, None, inl, inr, refl, sym, ◌∙◌, arith}
use Rattle.std.proofs.Common.{decimal}
use Rattle.std.specs.Option.{option_or}
use Rattle.std.proofs.lemmas.Bool.{cases_Bool, and_parts, leb-true}
use Rattle.std.proofs.lemmas.Option.{none-some}
use Rattle.sem_key.specs.declared.key.Kind.{Kind}
use Rattle.sem_key.specs.declared.key.Kind.TheVariants.{Mem, Recv, Send, Serv, Sess}
use Rattle.sem_key.specs.declared.limits.TheConstants.{NUMBERS}
use Rattle.sem_key.specs.KeyName.{kind_number}
use Rattle.sem_msg.specs.Versions.{most_vpes}
use Rattle.sem_text.specs.Number.{is_number, number_value}
use Rattle.sem_trace.specs.declared.fault.Cause.TheVariants.{BadNumber, OutOfRange}
use Rattle.sem_trace.specs.Forms.{place_fault, is_between, parts_of, are_numbers, are_within, key, key_place}
use Rattle.sem_trace.specs.Forms.Place.{Number, Dotted}
use Rattle.sem_trace.specs.Ranges.{IsNode, IsKeyInText, IsPlaceInText}
use Rattle.sem_trace.specs.Words.{key_word, place_word}
use Rattle.sem_trace.proofs.Nodes.{some_vpe, few_vpes}
use Rattle.sem_trace.proofs.PrintedNumbers.{printed_value, joined, in_row3, in_row4}

pub none_of : {X : Type 0} (o p : Option X) → option_or o p ≡ None → (o ≡ None) × (p ≡ None)
none_of None p none = (refl, none)
none_of (Some x) p none = absurd (none-some x (sym none))

-- what is in the range of a byte, or of an endpoint
pub byte_fits : (n : ℕ) → n ≤ 255 → n < 256
byte_fits n few = omega (arith, few)

pub endpoint_fits : (n : ℕ) → n ≤ 15 → n < 16
endpoint_fits n few = omega (arith, few)

-- the word is that of a value in range
abbrev pub IsWordOf : {X : Type 0} → (X → List ℕ) → (X → Type 0) → List ℕ → Type 0
IsWordOf {X} spell Fits word = (x : X) × (word ≡ spell x) × Fits x

abbrev pub IsIn : (least most n : ℕ) → Type 0
IsIn least most n = (least ≤ n) × (n ≤ most)

value_in : (least most : ℕ) (w : List ℕ) → most < 2 ^ 64 → is_number w ≡ true → is_between (least, most) w ≡ true → IsWordOf decimal (IsIn least most) w
value_in least most w small number between =
    let both = and_parts _ _ between in
    let low = leb-true _ _ both.0 in
    let high = leb-true _ _ both.1 in
    (number_value w, printed_value w number (omega (arith, high, small)), (low, high))

pub number_word : (least most : ℕ) (w : List ℕ) → most < 2 ^ 64 → place_fault (Number least most) w ≡ None → IsWordOf decimal (IsIn least most) w
number_word least most w small none = elim (cases_Bool (is_number w)) [
  | inl number ↦ elim (cases_Bool (is_between (least, most) w)) [
    | inl between ↦ value_in least most w small number between
    | inr beyond ↦ absurd (none-some OutOfRange (sym (rw (number, beyond) at none)))
  ]
  | inr other ↦ absurd (none-some BadNumber (sym (rw other at none)))
]

-- numbers between points
dotted_good : (ranges : List (ℕ × ℕ)) (w : List ℕ) → place_fault (Dotted ranges) w ≡ None → (are_numbers ranges (parts_of w) ≡ true)
    × (are_within ranges (parts_of w) ≡ true)
dotted_good ranges w none = elim (cases_Bool (are_numbers ranges (parts_of w))) [
  | inl numbers ↦ elim (cases_Bool (are_within ranges (parts_of w))) [
    | inl within ↦ (numbers, within)
    | inr beyond ↦ absurd (none-some OutOfRange (sym (rw (numbers, beyond) at none)))
  ]
  | inr other ↦ absurd (none-some BadNumber (sym (rw other at none)))
]

-- numbers in these ranges
abbrev AreSmall : List (ℕ × ℕ) → Type 0
AreSmall [] = Unit {0}
AreSmall (range ∷ ranges) = (range.1 < 2 ^ 64) × AreSmall ranges

abbrev AreValues : List (ℕ × ℕ) → List (List ℕ) → Type 0
AreValues [] parts = parts ≡ []
AreValues (range ∷ ranges) parts = (n : ℕ) × (rest : List (List ℕ)) × (parts ≡ decimal n ∷ rest) × (range.0 ≤ n) × (n ≤ range.1) × AreValues ranges rest

values_of : (ranges : List (ℕ × ℕ)) (parts : List (List ℕ)) → AreSmall ranges → are_numbers ranges parts ≡ true → are_within ranges parts ≡ true →
    AreValues ranges parts
unfolding are_numbers are_within
values_of [] [] small numbers within = refl
values_of [] (part ∷ parts) small numbers within = absurd (true≢false (sym numbers))
values_of (range ∷ ranges) [] small numbers within = absurd (true≢false (sym numbers))
values_of (range ∷ ranges) (part ∷ parts) small numbers within =
    let number = and_parts (is_number part) (are_numbers ranges parts) numbers in
    let between = and_parts (is_between range part) (are_within ranges parts) within in
    from (value_in range.0 range.1 part small.0 number.0 between.0) (values_of ranges parts small.1 number.1 between.1)
  where
    from : IsWordOf decimal (IsIn range.0 range.1) part → AreValues ranges parts → AreValues (range ∷ ranges) (part ∷ parts)
    from (n, is, inside) rest = (n, parts, rw is refl, inside.0, inside.1, rest)

pub node_in : (version n : ℕ) → n ≤ most_vpes version - 1 → IsNode version n
node_in version n few = omega (arith, few, some_vpe version)

drawn_in : (n : ℕ) → n ≤ 4095 → n < NUMBERS
drawn_in n few = omega (arith, few)

small_node : (version : ℕ) → most_vpes version - 1 < 2 ^ 64
small_node version = omega (arith, few_vpes version)

-- the kind of a number
kind_of : (n : ℕ) → 1 ≤ n → n ≤ 5 → (kind : Kind) × (kind_number kind ≡ n)
kind_of zero least most = absurd (omega arith)
kind_of (suc zero) least most = (Mem, refl)
kind_of (suc (suc zero)) least most = (Recv, refl)
kind_of (suc (suc (suc zero))) least most = (Send, refl)
kind_of (suc (suc (suc (suc zero)))) least most = (Serv, refl)
kind_of (suc (suc (suc (suc (suc zero))))) least most = (Sess, refl)
kind_of (suc (suc (suc (suc (suc (suc n)))))) least most = absurd (omega arith)

pub key_of : (version : ℕ) (w : List ℕ) → place_fault (key version) w ≡ None → IsWordOf key_word (IsKeyInText version) w
key_of version w none =
    let good = dotted_good _ w none in
    from (values_of _ (parts_of w) (small_node version, (small_node version, (omega arith, (omega arith, tt)))) good.0 good.1)
  where
    from : AreValues ((0, most_vpes version - 1) ∷ (0, most_vpes version - 1) ∷ (1, 5) ∷ (0, NUMBERS - 1) ∷ []) (parts_of w) →
        IsWordOf key_word (IsKeyInText version) w
    from (p, ps, p_is, p_least, p_in, (v, vs, v_is, v_least, v_in, (k, ks, k_is, k_least, k_most, (n, ns, n_is, n_least, n_in, end)))) =
        let kind = kind_of k k_least k_most in
        let parts : parts_of w ≡ decimal p ∷ decimal v ∷ decimal (kind_number kind.0) ∷ decimal n ∷ [] = rw (p_is, v_is, k_is, n_is, end, kind.1) refl in (
          record { pe = p; vpe = v; kind = kind.0; number = n },
          joined w _ parts
              ∙ in_row4 _ _ _ _,
          (node_in version p p_in, node_in version v v_in, drawn_in n n_in),
        )

pub place_of : (version : ℕ) (w : List ℕ) → place_fault (key_place version) w ≡ None → IsWordOf place_word (IsPlaceInText version) w
place_of version w none =
    let good = dotted_good _ w none in
    from (values_of _ (parts_of w) (small_node version, (small_node version, (omega arith, tt))) good.0 good.1)
  where
    from : AreValues ((0, most_vpes version - 1) ∷ (0, most_vpes version - 1) ∷ (0, NUMBERS - 1) ∷ []) (parts_of w) →
        IsWordOf place_word (IsPlaceInText version) w
    from (p, ps, p_is, p_least, p_in, (v, vs, v_is, v_least, v_in, (n, ns, n_is, n_least, n_in, end))) =
        let parts : parts_of w ≡ decimal p ∷ decimal v ∷ decimal n ∷ [] = rw (p_is, v_is, n_is, end) refl in
        (record { pe = p; vpe = v; number = n }, joined w _ parts ∙ in_row3 _ _ _, (node_in version p p_in, node_in version v v_in, drawn_in n n_in))
