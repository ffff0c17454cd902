-- What is printed of numbers, keys, calls and objects fills its places.
use Rattle.std.proofs.Common.{◌-◌, ◌≡◌, ℕ, ◌<◌, ◌≤◌, ◌^◌, ◌==◌, true, false, List, [], ◌∷◌, ◌++◌, map, Option, None, refl, ap, ◌∙◌, arith, decimal}
use Rattle.std.proofs.Common.{append_assoc, le-leb}
use Rattle.std.specs.List.{list_all, list_any, All}
use Rattle.std.specs.Str.{bytes_eq}
use Rattle.std.proofs.lemmas.Bool.Decides.{nat_tests}
use Rattle.std.proofs.lemmas.List.Splits.{slice_split_none, slice_split_at}
use Rattle.std.proofs.lemmas.List.Elements.{All-nil, All-cons}
use Rattle.sem_key.specs.declared.limits.TheConstants.{NUMBERS}
use Rattle.sem_key.specs.declared.object.Object.{Object}
use Rattle.sem_key.specs.declared.object.Object.TheVariants.{Mem, Recv, Send, Serv, Sess}
use Rattle.sem_key.specs.declared.key.Kind.{Kind}
use Rattle.sem_key.specs.declared.key.Kind.TheVariants.{Mem as MemKind, Recv as RecvKind, Send as SendKind, Serv as ServKind, Sess as SessKind}
use Rattle.sem_key.specs.KeyName.{KeyName, kind_number}
use Rattle.sem_key.specs.PlaceName.{PlaceName}
use Rattle.sem_msg.specs.declared.call.Call.{Call}
use Rattle.sem_msg.specs.declared.call.Call.TheVariants.{Derive, Gate, Obtain, Delegate, OpenSession, AskOffer, Revoke, Bind, Read, Write, Send as SendCall}
use Rattle.sem_msg.specs.declared.call.Call.TheVariants.{Credit, Exit, Clear}
use Rattle.sem_msg.specs.Calls.{IsValidCall}
use Rattle.sem_msg.specs.declared.message.Target.{Target}
use Rattle.sem_msg.specs.declared.message.Target.TheVariants.{Sel as SelTarget, Serv as ServTarget, Offer as OfferTarget}
use Rattle.sem_text.specs.Number.{is_digit, number_value}
use Rattle.sem_trace.specs.Ranges.{IsNode, IsKeyInText, IsPlaceInText}
use Rattle.sem_msg.specs.Versions.{most_vpes}
use Rattle.sem_trace.specs.declared.fault.Cause.{Cause}
use Rattle.sem_trace.specs.Words.{key_word, place_word, object_words, call_words}
use Rattle.sem_trace.specs.Forms.{Place, place_fault, form_fault, parts_of, are_numbers, are_within, choice, word_at, node, key, key_place, calls}
use Rattle.sem_trace.specs.Forms.Place.{Word, Number, Dotted}
use Rattle.sem_journal.specs.EntryText.{target_words}
use Rattle.sem_trace.specs.MessageForms.{objects, targets}
use Rattle.sem_journal.specs.EntryRanges.{ObjectFits, TargetFits}
use Rattle.sem_trace.proofs.Nodes.{few_vpes}
use Rattle.sem_reader.proofs.Decimals.{digits-decimal, is_number-decimal}
use Rattle.sem_reader.proofs.PlainText.{and-left, and-right}

pub value : (n : ℕ) → n < 2 ^ 64 → number_value (decimal n) ≡ n
value n fits = (digits-decimal n fits).1

-- a number between points
digit_no_point : (b : ℕ) → is_digit b ≡ true → (b == 46) ≡ false
digit_no_point b digit = grind (arith, nat_tests)

no_point : (ds : List ℕ) → list_all is_digit ds ≡ true → All (λ b. (b == 46) ≡ false) ds
no_point [] all = All-nil (λ b. (b == 46) ≡ false)
no_point (d ∷ ds) all = All-cons (λ b. (b == 46) ≡ false) d ds (digit_no_point d (and-left _ _ all)) (no_point ds (and-right (is_digit d) _ all))

one_part : (n : ℕ) → n < 2 ^ 64 → parts_of (decimal n) ≡ decimal n ∷ []
one_part n fits = slice_split_none (λ b. b == 46) (decimal n) (no_point (decimal n) (digits-decimal n fits).0)

first_part : (n : ℕ) (more : List ℕ) (parts : List (List ℕ)) → n < 2 ^ 64 → parts_of more ≡ parts → parts_of (decimal n ++ 46 ∷ more) ≡ decimal n ∷ parts
first_part n more parts fits rest = slice_split_at (λ b. b == 46) (decimal n) 46 more (no_point (decimal n) (digits-decimal n fits).0) refl
    ∙ ap (λ (ps : List (List ℕ)). decimal n ∷ ps) rest

-- the number of a PE or of a VPE is small
pub small : (version n : ℕ) → IsNode version n → n < 2 ^ 64
small version n valid = omega (arith, valid, few_vpes version)

pub kind_least : (kind : Kind) → 1 ≤ kind_number kind
kind_least MemKind = omega arith
kind_least RecvKind = omega arith
kind_least SendKind = omega arith
kind_least ServKind = omega arith
kind_least SessKind = omega arith

pub kind_most : (kind : Kind) → kind_number kind ≤ 5
kind_most MemKind = omega arith
kind_most RecvKind = omega arith
kind_most SendKind = omega arith
kind_most ServKind = omega arith
kind_most SessKind = omega arith

abbrev pub key_numbers : KeyName → List ℕ
key_numbers k = k.pe ∷ k.vpe ∷ kind_number k.kind ∷ k.number ∷ []

abbrev pub place_numbers : PlaceName → List ℕ
place_numbers p = p.pe ∷ p.vpe ∷ p.number ∷ []

regroup : (a b c d : List ℕ) → a ++ 46 ∷ b ++ 46 ∷ c ++ 46 ∷ d ≡ a ++ (46 ∷ (b ++ (46 ∷ (c ++ (46 ∷ d)))))
regroup a b c d = simp append_assoc

pub key_parts : (version : ℕ) (k : KeyName) → IsKeyInText version k → parts_of (key_word k) ≡ map decimal (key_numbers k)
key_parts version k valid =
    ap parts_of (regroup (decimal k.pe) (decimal k.vpe) (decimal (kind_number k.kind)) (decimal k.number))
    ∙ first_part k.pe _ _ (small version k.pe valid.0)
    (first_part k.vpe _ _ (small version k.vpe valid.1)
    (first_part (kind_number k.kind) _ _ (omega (arith, kind_most k.kind)) (one_part k.number (omega (arith, valid.2)))))

pub place_parts : (version : ℕ) (p : PlaceName) → IsPlaceInText version p → parts_of (place_word p) ≡ map decimal (place_numbers p)
place_parts version p valid =
    ap parts_of (append_assoc (decimal p.pe) (46 ∷ decimal p.vpe) (46 ∷ decimal p.number))
    ∙ first_part p.pe _ _ (small version p.pe valid.0) (first_part p.vpe _ _ (small version p.vpe valid.1) (one_part p.number (omega (arith, valid.2))))

-- numbers in their ranges
abbrev AreIn : List (ℕ × ℕ) → List ℕ → Type 0
AreIn [] [] = Unit {0}
AreIn [] (n ∷ ns) = ⊥
AreIn (range ∷ ranges) [] = ⊥
AreIn (range ∷ ranges) (n ∷ ns) = (range.0 ≤ n) × (n ≤ range.1) × (n < 2 ^ 64) × AreIn ranges ns

printed_numbers : (ranges : List (ℕ × ℕ)) (ns : List ℕ) → AreIn ranges ns → are_numbers ranges (map decimal ns) ≡ true
unfolding are_numbers
printed_numbers [] [] within = refl
printed_numbers [] (n ∷ ns) within = absurd within
printed_numbers (range ∷ ranges) [] within = absurd within
printed_numbers (range ∷ ranges) (n ∷ ns) within = rw (is_number-decimal n within.2, printed_numbers ranges ns within.3) refl

printed_within : (ranges : List (ℕ × ℕ)) (ns : List ℕ) → AreIn ranges ns → are_within ranges (map decimal ns) ≡ true
unfolding are_within
printed_within [] [] within = refl
printed_within [] (n ∷ ns) within = absurd within
printed_within (range ∷ ranges) [] within = absurd within
printed_within (range ∷ ranges) (n ∷ ns) within = rw (
  value n within.2,
  le-leb range.0 n within.0,
  le-leb n range.1 within.1,
  printed_within ranges ns within.3,
) refl

dotted : (ranges : List (ℕ × ℕ)) (ns word : List ℕ) → parts_of word ≡ map decimal ns → AreIn ranges ns → place_fault (Dotted ranges) word ≡ None
dotted ranges ns word parts within = rw (parts, printed_numbers ranges ns within, printed_within ranges ns within) refl

key_fits : (version : ℕ) (k : KeyName) → IsKeyInText version k → place_fault (key version) (key_word k) ≡ None
key_fits version k valid =
    dotted ((0, most_vpes version - 1) ∷ (0, most_vpes version - 1) ∷ (1, 5) ∷ (0, NUMBERS - 1) ∷ []) (key_numbers k) (key_word k) (key_parts version k valid) (
      omega arith,
      omega (arith, valid.0),
      small version k.pe valid.0,
      (
        omega arith,
        omega (arith, valid.1),
        small version k.vpe valid.1,
        (kind_least k.kind, kind_most k.kind, omega (arith, kind_most k.kind), (omega arith, omega (arith, valid.2), omega (arith, valid.2), tt)),
      ),
    )

place_fits : (version : ℕ) (p : PlaceName) → IsPlaceInText version p → place_fault (key_place version) (place_word p) ≡ None
place_fits version p valid =
    dotted ((0, most_vpes version - 1) ∷ (0, most_vpes version - 1) ∷ (0, NUMBERS - 1) ∷ []) (place_numbers p) (place_word p) (place_parts version p valid) (
      omega arith,
      omega (arith, valid.0),
      small version p.pe valid.0,
      (omega arith, omega (arith, valid.1), small version p.vpe valid.1, (omega arith, omega (arith, valid.2), omega (arith, valid.2), tt)),
    )

number_fits : (least most n : ℕ) → least ≤ n → n ≤ most → n < 2 ^ 64 → place_fault (Number least most) (decimal n) ≡ None
number_fits least most n low high fits = rw (is_number-decimal n fits, value n fits, le-leb least n low, le-leb n most high) refl

-- what is wrong with these words in those places
pub record Leaves (places : List Place) (words : List (List ℕ)) (o : Option (Cause × ℕ)) : Type 0 where
  pub is : form_fault places words ≡ o

-- one place more
filled : {place : Place} {places : List Place} {word : List ℕ} {words : List (List ℕ)} {o : Option (Cause × ℕ)} → place_fault place word ≡ None →
    Leaves places words o → Leaves (place ∷ places) (word ∷ words) o
unfolding form_fault
filled fits rest = record { is = rw fits rest.is }

pub a_name : {names : List (List ℕ)} {places : List Place} {word : List ℕ} {words : List (List ℕ)} {o : Option (Cause × ℕ)} →
    list_any (bytes_eq word) names ≡ true →
    Leaves places words o → Leaves (Word names ∷ places) (word ∷ words) o
a_name {names} {places} {word} among rest = filled {place = Word names} {word = word} (rw among refl) rest

pub a_number : {least most : ℕ} {places : List Place} {words : List (List ℕ)} {o : Option (Cause × ℕ)} (n : ℕ) → least ≤ n → n ≤ most → n < 2 ^ 64 →
    Leaves places words o → Leaves (Number least most ∷ places) (decimal n ∷ words) o
a_number {least} {most} n low high fits rest = filled (number_fits least most n low high fits) rest

pub a_node : {places : List Place} {words : List (List ℕ)} {o : Option (Cause × ℕ)} (version n : ℕ) → IsNode version n → Leaves places words o →
    Leaves (node version ∷ places) (decimal n ∷ words) o
a_node version n valid rest = a_number n (omega arith) (omega (arith, valid)) (small version n valid) rest

pub a_key : {places : List Place} {words : List (List ℕ)} {o : Option (Cause × ℕ)} (version : ℕ) (k : KeyName) → IsKeyInText version k → Leaves places words o →
    Leaves (key version ∷ places) (key_word k ∷ words) o
a_key version k valid rest = filled {place = key version} (key_fits version k valid) rest

pub a_place : {places : List Place} {words : List (List ℕ)} {o : Option (Cause × ℕ)} (version : ℕ) (p : PlaceName) →
    IsPlaceInText version p → Leaves places words o →
    Leaves (key_place version ∷ places) (place_word p ∷ words) o
a_place version p valid rest = filled {place = key_place version} (place_fits version p valid) rest

-- what is printed fills the places, whatever places and words follow
pub object_filled : {more : List Place} {rest : List (List ℕ)} {c : Option (Cause × ℕ)} (version : ℕ) (o : Object) → ObjectFits version o → Leaves more rest c →
    Leaves (choice (objects version) (word_at (object_words o ++ rest) 0) ++ more) (object_words o ++ rest) c
unfolding objects
object_filled version (Mem base len rights) fits behind =
    a_name refl (a_number base (omega arith) (omega (arith, fits.0)) (omega (arith, fits.0))
    (a_number len (omega arith) (omega (arith, fits.1)) (omega (arith, fits.1))
    (a_number rights (omega arith) (omega (arith, fits.2)) (omega (arith, fits.2)) behind)))
object_filled version (Recv slots) fits behind = a_name refl (a_number slots fits.0 fits.1 (omega (arith, fits.1)) behind)
object_filled version (Send gate label credits) fits behind =
    a_name refl (a_key version gate fits.0 (a_number label (omega arith) (omega (arith, fits.1)) (omega (arith, fits.1))
    (a_number credits fits.2 fits.3 (omega (arith, fits.3)) behind)))
object_filled version (Serv name) fits behind = a_name refl (a_number name (omega arith) (omega (arith, fits)) (omega (arith, fits)) behind)
object_filled version (Sess service ident) fits behind = a_name refl (a_key version service fits.0 (a_node version ident fits.1 behind))

pub call_filled : {more : List Place} {rest : List (List ℕ)} {o : Option (Cause × ℕ)} (version : ℕ) (c : Call) → IsValidCall (most_vpes version) c →
    Leaves more rest o → Leaves (choice (calls version) (word_at (call_words c ++ rest) 0) ++ more) (call_words c ++ rest) o
unfolding calls
call_filled version (Derive src dst off len rights) valid behind =
    a_name refl (a_number src (omega arith) (omega (arith, valid.0)) (omega (arith, valid.0))
    (a_number dst (omega arith) (omega (arith, valid.1)) (omega (arith, valid.1)) (a_number off (omega arith) (omega (arith, valid.2)) (omega (arith, valid.2))
    (a_number len (omega arith) (omega (arith, valid.3)) (omega (arith, valid.3))
    (a_number rights (omega arith) (omega (arith, valid.4)) (omega (arith, valid.4)) behind)))))
call_filled version (Gate src dst label credits) valid behind =
    a_name refl (a_number src (omega arith) (omega (arith, valid.0)) (omega (arith, valid.0))
    (a_number dst (omega arith) (omega (arith, valid.1)) (omega (arith, valid.1))
    (a_number label (omega arith) (omega (arith, valid.2)) (omega (arith, valid.2)) (a_number credits valid.3 valid.4 (omega (arith, valid.4)) behind))))
call_filled version (Obtain dst vpe src) valid behind =
    a_name refl (a_number dst (omega arith) (omega (arith, valid.0)) (omega (arith, valid.0))
    (a_node version vpe valid.1 (a_number src (omega arith) (omega (arith, valid.2)) (omega (arith, valid.2)) behind)))
call_filled version (Delegate src vpe dst) valid behind =
    a_name refl (a_number src (omega arith) (omega (arith, valid.0)) (omega (arith, valid.0))
    (a_node version vpe valid.1 (a_number dst (omega arith) (omega (arith, valid.2)) (omega (arith, valid.2)) behind)))
call_filled version (OpenSession dst name) valid behind =
    a_name refl (a_number dst (omega arith) (omega (arith, valid.0)) (omega (arith, valid.0))
    (a_number name (omega arith) (omega (arith, valid.1)) (omega (arith, valid.1)) behind))
call_filled version (AskOffer dst session index) valid behind =
    a_name refl (a_number dst (omega arith) (omega (arith, valid.0)) (omega (arith, valid.0))
    (a_number session (omega arith) (omega (arith, valid.1)) (omega (arith, valid.1))
    (a_number index (omega arith) (omega (arith, valid.2)) (omega (arith, valid.2)) behind)))
call_filled version (Revoke src) valid behind = a_name refl (a_number src (omega arith) (omega (arith, valid)) (omega (arith, valid)) behind)
call_filled version (Bind ep src) valid behind =
    a_name refl (a_number ep (omega arith) (omega (arith, valid.0)) (omega (arith, valid.0))
    (a_number src (omega arith) (omega (arith, valid.1)) (omega (arith, valid.1)) behind))
call_filled version (Read ep off len) valid behind =
    a_name refl (a_number ep (omega arith) (omega (arith, valid.0)) (omega (arith, valid.0))
    (a_number off (omega arith) (omega (arith, valid.1)) (omega (arith, valid.1))
    (a_number len (omega arith) (omega (arith, valid.2)) (omega (arith, valid.2)) behind)))
call_filled version (Write ep off len) valid behind =
    a_name refl (a_number ep (omega arith) (omega (arith, valid.0)) (omega (arith, valid.0))
    (a_number off (omega arith) (omega (arith, valid.1)) (omega (arith, valid.1))
    (a_number len (omega arith) (omega (arith, valid.2)) (omega (arith, valid.2)) behind)))
call_filled version (SendCall ep len) valid behind =
    a_name refl (a_number ep (omega arith) (omega (arith, valid.0)) (omega (arith, valid.0))
    (a_number len (omega arith) (omega (arith, valid.1)) (omega (arith, valid.1)) behind))
call_filled version (Credit ep) valid behind = a_name refl (a_number ep (omega arith) (omega (arith, valid)) (omega (arith, valid)) behind)
call_filled version Exit valid behind = a_name refl behind
call_filled version (Clear src) valid behind = a_name refl (a_number src (omega arith) (omega (arith, valid)) (omega (arith, valid)) behind)

pub target_filled : {more : List Place} {rest : List (List ℕ)} {o : Option (Cause × ℕ)} (version : ℕ) (t : Target) → TargetFits version t → Leaves more rest o →
    Leaves (choice (targets version) (word_at (target_words t ++ rest) 0) ++ more) (target_words t ++ rest) o
unfolding targets
target_filled version (SelTarget vpe sel) fits behind =
    a_name refl (a_node version vpe fits.0 (a_number sel (omega arith) (omega (arith, fits.1)) (omega (arith, fits.1)) behind))
target_filled version (ServTarget service) fits behind = a_name refl (a_key version service fits behind)
target_filled version (OfferTarget service index) fits behind =
    a_name refl (a_key version service fits.0 (a_number index (omega arith) (omega (arith, fits.1)) (omega (arith, fits.1)) behind))
