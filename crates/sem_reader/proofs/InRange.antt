-- What a line says that has a form is in range.
use Rattle.std.proofs.Common.{◌≡◌, ℕ, zero, suc, ◌-◌, ◌<◌, ◌≤◌, ◌==◌, Bool, true, false, cond, List, [], ◌∷◌, length, get_or, map, codes, Option, Some, None}
use Rattle.std.proofs.Common.{inl, inr, refl, sym, subst, arith}
use Rattle.std.specs.List.{Contains, list_any}
use Rattle.std.specs.Option.{option_or, option_map}
use Rattle.sem_trace.proofs.PlaceSteps.{unmapped}
use Rattle.std.specs.Str.{bytes_eq}
use Rattle.std.proofs.lemmas.Bool.{cases_Bool, and_parts, leb-true}
use Rattle.std.proofs.lemmas.Option.{none-some}
use Rattle.std.proofs.lemmas.Slice.Eq.{bytes_eq-Decides}
use Rattle.sem_key.proofs.Members.{Contains-nil, Contains-cons_cases, list_any-some}
use Rattle.sem_msg.specs.Calls.{IsValidCall}
use Rattle.sem_msg.specs.Versions.{most_vpes, least_window, most_window}
use Rattle.sem_text.specs.Number.{is_number, number_value}
use Rattle.sem_trace.specs.declared.fault.Cause.{Cause}
use Rattle.sem_trace.specs.declared.fault.Cause.TheVariants.{UnknownWord, BadNumber, OutOfRange, Missing}
use Rattle.sem_trace.specs.Forms.{Place, place_fault, form_fault, is_between, word_at, node, byte, root_objects, window_line, calls, lines, form}
use Rattle.sem_trace.specs.Forms.Place.{Word, Number}
use Rattle.sem_trace.specs.Declarations.{number_at, call_from, root_from, declaration}
use Rattle.sem_trace.specs.Ranges.{IsNode, IsInRange}

or_none : (o p : Option (Cause × ℕ)) → option_or o p ≡ None → (o ≡ None) × (p ≡ None)
or_none None p none = (refl, none)
or_none (Some fault) p none = absurd (none-some fault (sym none))

-- the fault of a word in its place, with words behind
abbrev first_fault : Place → List ℕ → List (List ℕ) → Option (Cause × ℕ)
first_fault place word words = option_map (λ cause. (cause, length (word ∷ words))) (place_fault place word)

-- each place of a form is filled without a fault
pub at_place : (places : List Place) (words : List (List ℕ)) → form_fault places words ≡ None → (i : ℕ) → i < length places →
    place_fault (get_or places i (Word [])) (word_at words i) ≡ None
unfolding form_fault
at_place [] words none i within = absurd (omega arith)
at_place (place ∷ places) [] none i within = absurd (none-some (Missing, 0) (sym none))
at_place (place ∷ places) (word ∷ words) none zero within =
    unmapped _ (place_fault place word) (or_none (first_fault place word words) (form_fault places words) none).0
at_place (place ∷ places) (word ∷ words) none (suc i) within = at_place places words (or_none (first_fault place word words) (form_fault places words) none).1 i
    (omega arith)

-- a number without a fault is in its range
within : (least most : ℕ) (w : List ℕ) → place_fault (Number least most) w ≡ None → (least ≤ number_value w) × (number_value w ≤ most)
within least most w none = elim (cases_Bool (is_number w)) [
  | inl number ↦ from (is_between (least, most) w) refl (rw number at none)
  | inr other ↦ absurd (none-some BadNumber (sym (rw other at none)))
]
  where
    from : (b : Bool) → is_between (least, most) w ≡ b → cond b None (Some OutOfRange) ≡ None → (least ≤ number_value w) × (number_value w ≤ most)
    from true is none = let both = and_parts _ _ is in (leb-true _ _ both.0, leb-true _ _ both.1)
    from false is none = absurd (none-some OutOfRange (sym none))

-- the number at a place of a form
pub number_in : (places : List Place) (words : List (List ℕ)) → form_fault places words ≡ None → (i least most : ℕ) → i < length places →
    get_or places i (Word []) ≡ Number least most → (least ≤ number_at words i) × (number_at words i ≤ most)
number_in places words none i least most inside is =
    within least most (word_at words i) (subst (λ (p : Place). place_fault p (word_at words i) ≡ None) is (at_place places words none i inside))

-- a word without a fault is one of those that can stand in its place
pub one_of : (names : List (List ℕ)) (w : List ℕ) → place_fault (Word names) w ≡ None → Contains names w
one_of names w none = from (list_any (bytes_eq w) names) refl none
  where
    from : (b : Bool) → list_any (bytes_eq w) names ≡ b → cond b None (Some UnknownWord) ≡ None → Contains names w
    from true is none = let some = list_any-some (bytes_eq w) names is in subst (Contains names) (sym ((bytes_eq-Decides w some.0).0 some.2)) some.1
    from false is none = absurd (none-some UnknownWord (sym none))

-- it holds of each
abbrev OfEach : (List ℕ → Type 0) → List (List ℕ) → Type 0
OfEach P [] = Unit {0}
OfEach P (name ∷ names) = P name × OfEach P names

of_one : (P : List ℕ → Type 0) (names : List (List ℕ)) (w : List ℕ) → OfEach P names → Contains names w → P w
of_one P [] w all among = absurd (Contains-nil w among)
of_one P (name ∷ names) w all among = elim (Contains-cons_cases name names w among) [
  | inl is ↦ subst P is all.0
  | inr later ↦ of_one P names w all.1 later
]

node_fits : (version n : ℕ) → n ≤ most_vpes version - 1 → IsNode version n
node_fits version n few = elim (cases_Bool (version == 1)) [
  | inl one ↦ let most : most_vpes version ≡ 64 = rw one refl in omega (arith, few, most)
  | inr other ↦ let most : most_vpes version ≡ 128 = rw other refl in omega (arith, few, most)
]

below : (n most : ℕ) → n ≤ most - 1 → 1 ≤ most → n < most
below n most few some = omega arith

endpoint_fits : (n : ℕ) → n ≤ 15 → n < 16
endpoint_fits n few = omega arith

byte_fits : (n : ℕ) → n ≤ 255 → n < 256
byte_fits n few = omega arith

-- the rows of calls, each from its name on, behind the name of the line and a VPE
module _ (version kernels : ℕ) (v : List ℕ) where
  abbrev IsCallRow : List ℕ → List (List ℕ) → Type 0
  IsCallRow name ws = form_fault (form version kernels (codes "call" ∷ v ∷ name ∷ ws)) (codes "call" ∷ v ∷ name ∷ ws) ≡ None →
      IsValidCall (most_vpes version) (call_from (name ∷ ws))

  abbrev Numbers : List ℕ → List (List ℕ) → Type 0
  Numbers name ws =
      (i least most : ℕ) → i < length (form version kernels (codes "call" ∷ v ∷ name ∷ ws)) →
      get_or (form version kernels (codes "call" ∷ v ∷ name ∷ ws)) i (Word []) ≡ Number least most
      → (least ≤ number_at (codes "call" ∷ v ∷ name ∷ ws) i) × (number_at (codes "call" ∷ v ∷ name ∷ ws) i ≤ most)

  numbers_of : (name : List ℕ) (ws : List (List ℕ)) → form_fault (form version kernels (codes "call" ∷ v ∷ name ∷ ws)) (codes "call" ∷ v ∷ name ∷ ws) ≡ None →
      Numbers name ws
  numbers_of name ws none = number_in (form version kernels (codes "call" ∷ v ∷ name ∷ ws)) (codes "call" ∷ v ∷ name ∷ ws) none

  derive_row : (ws : List (List ℕ)) → IsCallRow (codes "derive") ws
  unfolding form lines calls call_from
  derive_row ws none = let n = numbers_of (codes "derive") ws none in (
    byte_fits _ (n 3 0 255 (omega arith) refl).1,
    byte_fits _ (n 4 0 255 (omega arith) refl).1,
    (n 5 0 4294967295 (omega arith) refl).1,
    (n 6 0 4294967295 (omega arith) refl).1,
    (n 7 0 7 (omega arith) refl).1,
  )

  gate_row : (ws : List (List ℕ)) → IsCallRow (codes "gate") ws
  unfolding form lines calls call_from
  gate_row ws none = let n = numbers_of (codes "gate") ws none in (
    byte_fits _ (n 3 0 255 (omega arith) refl).1,
    byte_fits _ (n 4 0 255 (omega arith) refl).1,
    (n 5 0 4294967295 (omega arith) refl).1,
    (n 6 1 64 (omega arith) refl).0,
    (n 6 1 64 (omega arith) refl).1,
  )

  obtain_row : (ws : List (List ℕ)) → IsCallRow (codes "obtain") ws
  unfolding form lines calls call_from
  obtain_row ws none = let n = numbers_of (codes "obtain") ws none in (
    byte_fits _ (n 3 0 255 (omega arith) refl).1,
    node_fits version _ (n 4 0 (most_vpes version - 1) (omega arith) refl).1,
    byte_fits _ (n 5 0 255 (omega arith) refl).1,
  )

  delegate_row : (ws : List (List ℕ)) → IsCallRow (codes "delegate") ws
  unfolding form lines calls call_from
  delegate_row ws none = let n = numbers_of (codes "delegate") ws none in (
    byte_fits _ (n 3 0 255 (omega arith) refl).1,
    node_fits version _ (n 4 0 (most_vpes version - 1) (omega arith) refl).1,
    byte_fits _ (n 5 0 255 (omega arith) refl).1,
  )

  open_row : (ws : List (List ℕ)) → IsCallRow (codes "open") ws
  unfolding form lines calls call_from
  open_row ws none = let n = numbers_of (codes "open") ws none in (byte_fits _ (n 3 0 255 (omega arith) refl).1, (n 4 0 255 (omega arith) refl).1)

  ask_row : (ws : List (List ℕ)) → IsCallRow (codes "ask") ws
  unfolding form lines calls call_from
  ask_row ws none = let n = numbers_of (codes "ask") ws none in
      (byte_fits _ (n 3 0 255 (omega arith) refl).1, byte_fits _ (n 4 0 255 (omega arith) refl).1, (n 5 0 255 (omega arith) refl).1)

  revoke_row : (ws : List (List ℕ)) → IsCallRow (codes "revoke") ws
  unfolding form lines calls call_from
  revoke_row ws none = let n = numbers_of (codes "revoke") ws none in byte_fits _ (n 3 0 255 (omega arith) refl).1

  bind_row : (ws : List (List ℕ)) → IsCallRow (codes "bind") ws
  unfolding form lines calls call_from
  bind_row ws none = let n = numbers_of (codes "bind") ws none in
      (endpoint_fits _ (n 3 0 15 (omega arith) refl).1, byte_fits _ (n 4 0 255 (omega arith) refl).1)

  read_row : (ws : List (List ℕ)) → IsCallRow (codes "read") ws
  unfolding form lines calls call_from
  read_row ws none = let n = numbers_of (codes "read") ws none in
      (endpoint_fits _ (n 3 0 15 (omega arith) refl).1, (n 4 0 4294967295 (omega arith) refl).1, (n 5 0 4294967295 (omega arith) refl).1)

  write_row : (ws : List (List ℕ)) → IsCallRow (codes "write") ws
  unfolding form lines calls call_from
  write_row ws none = let n = numbers_of (codes "write") ws none in
      (endpoint_fits _ (n 3 0 15 (omega arith) refl).1, (n 4 0 4294967295 (omega arith) refl).1, (n 5 0 4294967295 (omega arith) refl).1)

  send_row : (ws : List (List ℕ)) → IsCallRow (codes "send") ws
  unfolding form lines calls call_from
  send_row ws none = let n = numbers_of (codes "send") ws none in (endpoint_fits _ (n 3 0 15 (omega arith) refl).1, (n 4 0 4294967295 (omega arith) refl).1)

  credit_row : (ws : List (List ℕ)) → IsCallRow (codes "credit") ws
  unfolding form lines calls call_from
  credit_row ws none = let n = numbers_of (codes "credit") ws none in endpoint_fits _ (n 3 0 15 (omega arith) refl).1

  exit_row : (ws : List (List ℕ)) → IsCallRow (codes "exit") ws
  unfolding form lines calls call_from
  exit_row ws none = tt

  clear_row : (ws : List (List ℕ)) → IsCallRow (codes "clear") ws
  unfolding form lines calls call_from
  clear_row ws none = let n = numbers_of (codes "clear") ws none in byte_fits _ (n 3 0 255 (omega arith) refl).1

  -- each call is in range
  call_row : (name : List ℕ) (ws : List (List ℕ)) → IsCallRow name ws
  unfolding form lines calls
  call_row name ws =
      λ none. of_one (λ w. IsCallRow w ws) (map (λ row. row.0) (calls version)) name (
        derive_row ws,
        (
          gate_row ws,
          (
            obtain_row ws,
            (
              delegate_row ws,
              (
                open_row ws,
                (
                  ask_row ws,
                  (revoke_row ws, (bind_row ws, (read_row ws, (write_row ws, (send_row ws, (credit_row ws, (exit_row ws, (clear_row ws, tt)))))))),
                ),
              ),
            ),
          ),
        ),
      )
      (one_of (map (λ row. row.0) (calls version)) name (at_place (form version kernels (codes "call" ∷ v ∷ name ∷ ws)) (codes "call" ∷ v ∷ name ∷ ws) none 2
      (omega arith)))
      none

-- the rows of lines
module _ (version kernels : ℕ) (some : 1 ≤ kernels) where
  abbrev IsRow : List ℕ → List (List ℕ) → Type 0
  IsRow name ws = form_fault (form version kernels (name ∷ ws)) (name ∷ ws) ≡ None → IsInRange version kernels (declaration (name ∷ ws))

  kernels_line : (ws : List (List ℕ)) → IsRow (codes "kernels") ws
  unfolding form lines declaration
  kernels_line ws none = tt

  pe_line : (ws : List (List ℕ)) → IsRow (codes "pe") ws
  unfolding form lines declaration
  pe_line ws none = let n = number_in (form version kernels (codes "pe" ∷ ws)) (codes "pe" ∷ ws) none in
      (node_fits version _ (n 1 0 (most_vpes version - 1) (omega arith) refl).1, below _ kernels (n 2 0 (kernels - 1) (omega arith) refl).1 some)

  vpe_line : (ws : List (List ℕ)) → IsRow (codes "vpe") ws
  unfolding form lines declaration
  vpe_line ws none = let n = number_in (form version kernels (codes "vpe" ∷ ws)) (codes "vpe" ∷ ws) none in
      (node_fits version _ (n 1 0 (most_vpes version - 1) (omega arith) refl).1, node_fits version _ (n 2 0 (most_vpes version - 1) (omega arith) refl).1)

  service_line : (ws : List (List ℕ)) → IsRow (codes "service") ws
  unfolding form lines declaration
  service_line ws none = let n = number_in (form version kernels (codes "service" ∷ ws)) (codes "service" ∷ ws) none in
      (node_fits version _ (n 1 0 (most_vpes version - 1) (omega arith) refl).1, byte_fits _ (n 2 0 255 (omega arith) refl).1, (n 3 0 255 (omega arith) refl).1)

  offer_line : (ws : List (List ℕ)) → IsRow (codes "offer") ws
  unfolding form lines declaration
  offer_line ws none = let n = number_in (form version kernels (codes "offer" ∷ ws)) (codes "offer" ∷ ws) none in
      ((n 1 0 255 (omega arith) refl).1, (n 2 0 255 (omega arith) refl).1, byte_fits _ (n 3 0 255 (omega arith) refl).1)

  deny_line : (ws : List (List ℕ)) → IsRow (codes "deny") ws
  unfolding form lines declaration
  deny_line ws none = let n = number_in (form version kernels (codes "deny" ∷ ws)) (codes "deny" ∷ ws) none in
      (node_fits version _ (n 1 0 (most_vpes version - 1) (omega arith) refl).1, node_fits version _ (n 2 0 (most_vpes version - 1) (omega arith) refl).1)

  kill_line : (ws : List (List ℕ)) → IsRow (codes "kill") ws
  unfolding form lines declaration
  kill_line ws none = let n = number_in (form version kernels (codes "kill" ∷ ws)) (codes "kill" ∷ ws) none in
      (node_fits version _ (n 1 0 (most_vpes version - 1) (omega arith) refl).1, (n 2 0 4294967295 (omega arith) refl).1)

  end_line : (ws : List (List ℕ)) → IsRow (codes "end") ws
  unfolding form lines declaration
  end_line ws none = tt

  -- a root, by the name of its object
  abbrev IsRootRow : (v sel name : List ℕ) → List (List ℕ) → Type 0
  IsRootRow v sel name ws = IsRow (codes "root") (v ∷ sel ∷ name ∷ ws)

  mem_root : (v sel : List ℕ) (ws : List (List ℕ)) → IsRootRow v sel (codes "mem") ws
  unfolding form lines root_objects declaration root_from
  mem_root v sel ws none =
      let n = number_in (form version kernels (codes "root" ∷ v ∷ sel ∷ codes "mem" ∷ ws)) (codes "root" ∷ v ∷ sel ∷ codes "mem" ∷ ws) none in (
        node_fits version _ (n 1 0 (most_vpes version - 1) (omega arith) refl).1,
        byte_fits _ (n 2 0 255 (omega arith) refl).1,
        (n 4 0 4294967295 (omega arith) refl).1,
        (n 5 0 4294967295 (omega arith) refl).1,
        (n 6 0 7 (omega arith) refl).1,
      )

  recv_root : (v sel : List ℕ) (ws : List (List ℕ)) → IsRootRow v sel (codes "recv") ws
  unfolding form lines root_objects declaration root_from
  recv_root v sel ws none =
      let n = number_in (form version kernels (codes "root" ∷ v ∷ sel ∷ codes "recv" ∷ ws)) (codes "root" ∷ v ∷ sel ∷ codes "recv" ∷ ws) none in (
        node_fits version _ (n 1 0 (most_vpes version - 1) (omega arith) refl).1,
        byte_fits _ (n 2 0 255 (omega arith) refl).1,
        (n 4 1 64 (omega arith) refl).0,
        (n 4 1 64 (omega arith) refl).1,
      )

  root_line : (ws : List (List ℕ)) → IsRow (codes "root") ws
  unfolding form lines root_objects form_fault
  root_line [] none = absurd (none-some (Missing, 0) (sym none))
  root_line (v ∷ []) none = absurd (none-some (Missing, 0) (sym (or_none (first_fault (node version) v []) _ none).1))
  root_line (v ∷ sel ∷ []) none =
      absurd (none-some (Missing, 0) (sym (or_none (first_fault byte sel []) _ (or_none (first_fault (node version) v (sel ∷ [])) _ none).1).1))
  root_line (v ∷ sel ∷ name ∷ ws) none =
      of_one (λ w. IsRootRow v sel w ws) (map (λ row. row.0) root_objects) name
      (mem_root v sel ws, (recv_root v sel ws, tt))
      (one_of (map (λ row. row.0) root_objects) name (at_place (form version kernels (codes "root" ∷ v ∷ sel ∷ name ∷ ws)) (codes "root" ∷ v ∷ sel ∷ name ∷ ws) none
      3 (omega arith)))
      none

  call_line : (ws : List (List ℕ)) → IsRow (codes "call") ws
  unfolding form lines calls form_fault declaration
  call_line [] none = absurd (none-some (Missing, 0) (sym none))
  call_line (v ∷ []) none = absurd (none-some (Missing, 0) (sym (or_none (first_fault (node version) v []) _ none).1))
  call_line (v ∷ name ∷ ws) none =
      let n = number_in (form version kernels (codes "call" ∷ v ∷ name ∷ ws)) (codes "call" ∷ v ∷ name ∷ ws) none in
      (node_fits version _ (n 1 0 (most_vpes version - 1) (omega arith) refl).1, call_row version kernels v name ws none)

  window_ranges : (version == 1) ≡ false → (ws : List (List ℕ)) → IsRow (codes "window") ws
  unfolding form lines declaration
  window_ranges other ws none =
      number_in (form version kernels (codes "window" ∷ ws)) (codes "window" ∷ ws) none 1 (least_window version) (most_window version) (rw other (omega arith))
      (rw other refl)

  -- version 2 alone has a line of the window
  window_row : (ws : List (List ℕ)) → OfEach (λ w. IsRow w ws) (map (λ row. row.0) (window_line version))
  window_row ws = elim (cases_Bool (version == 1)) [
    | inl one ↦ rw one tt
    | inr other ↦ rw other (window_ranges other ws, tt)
  ]

  line_row : (name : List ℕ) (ws : List (List ℕ)) → IsRow name ws
  unfolding form lines
  line_row name ws none =
      of_one (λ w. IsRow w ws) (map (λ row. row.0) (lines version kernels (name ∷ ws))) name (
        kernels_line ws,
        (
          pe_line ws,
          (
            vpe_line ws,
            (root_line ws, (service_line ws, (offer_line ws, (deny_line ws, (kill_line ws, (call_line ws, (end_line ws, window_row ws))))))),
          ),
        ),
      )
      (one_of (map (λ row. row.0) (lines version kernels (name ∷ ws))) name (at_place (form version kernels (name ∷ ws)) (name ∷ ws) none 0 (omega arith)))
      none

-- what a line says behind the second is in range
pub form_ranges : (version kernels : ℕ) (words : List (List ℕ)) → 1 ≤ kernels → form_fault (form version kernels words) words ≡ None →
    IsInRange version kernels (declaration words)
unfolding form_fault form
form_ranges version kernels [] some none = absurd (none-some (Missing, 0) (sym none))
form_ranges version kernels (name ∷ ws) some none = line_row version kernels some name ws none
