-- A text is read line by line, whatever its lines say.
use Rattle.std.proofs.Common.{◌≡◌, ℕ, zero, suc, ◌+◌, ◌≤◌, Bool, true, false, cond, List, [], ◌∷◌, ◌++◌, length, get_or, Option, Some, None, refl, ap}
use Rattle.std.proofs.Common.{sym, ◌∙◌, subst, arith, append_assoc, append-nil, length-append, inl, inr}
use Rattle.std.specs.List.{range_with_len}
use Rattle.std.specs.Option.{option_map, option_or}
use Rattle.std.proofs.lemmas.Bool.{cases_Bool}
use Rattle.std.proofs.Math.Seq.{take-append_seam}
use Rattle.std.proofs.lemmas.Option.{none-some}
use Rattle.sem_trace.specs.declared.fault.Cause.{Cause}
use Rattle.sem_trace.specs.declared.fault.LineFault.{LineFault}
use Rattle.sem_trace.specs.declared.fault.TraceFault.{TraceFault}
use Rattle.sem_trace.specs.declared.fault.TraceError.{TraceError}
use Rattle.sem_trace.specs.declared.fault.TraceError.TheVariants.{Refused as RefusedText, Memory as NoMemory}
use Rattle.sem_trace.specs.declared.line_error.LineError.{LineError}
use Rattle.sem_trace.specs.declared.line_error.LineError.TheVariants.{Refused, Memory}
use Rattle.sem_trace.specs.LineErrors.{Stops, fault_of, at_line}
use Rattle.sem_trace.specs.TextLines.{lines_of, words_of, is_significant, significant, with_significant, bytes_fault}
use Rattle.sem_trace.specs.Forms.{whole_line}
use Rattle.sem_trace.specs.Earlier.{first_some}
use Rattle.sem_trace.specs.Refusal.{line_fault_by, numbers, fault_by}
use Rattle.sem_trace.specs.LinesRead.{AreRead}
use Rattle.sem_trace.specs.SetupOfText.{IsWhy}

-- The numbers below n.

range-append : (a n k : ℕ) → range_with_len a (n + k) ≡ range_with_len a n ++ range_with_len (a + n) k
range-append a zero k = let e : a + 0 ≡ a = omega arith in let f : 0 + k ≡ k = omega arith in rw (e, f) refl
range-append a (suc n) k = let e : a + suc n ≡ (a + 1) + n = omega arith in let f : suc n + k ≡ suc (n + k) = omega arith in
    rw (e, f, range-append (a + 1) n k) refl

numbers-append : (n k : ℕ) → numbers (n + k) ≡ numbers n ++ range_with_len n k
unfolding numbers
numbers-append n k = let e : 0 + n ≡ n = omega arith in rw (range-append 0 n k, e) refl

pub numbers-more : (n : ℕ) → numbers (n + 1) ≡ numbers n ++ n ∷ []
numbers-more n = numbers-append n 1

pub numbers-none : numbers 0 ≡ []
unfolding numbers
numbers-none = refl

-- The first of all.

pub first_same : {X Y : Type 0} (h : X → Option Y) (xs : List X) (x : X) → h x ≡ None → first_some h (xs ++ x ∷ []) ≡ first_some h xs
first_same h [] x none = rw none refl
first_same h (y ∷ ys) x none = ap (option_or (h y)) (first_same h ys x none)

skips : {Y : Type 0} (o p q r : Option Y) → option_or o p ≡ None → (p ≡ None → q ≡ r) → option_or o q ≡ r
skips None p q r none then' = then' none
skips (Some x) p q r none then' = absurd (none-some x (sym none))

first_append : {X Y : Type 0} (h : X → Option Y) (xs ys : List X) → first_some h xs ≡ None → first_some h (xs ++ ys) ≡ first_some h ys
first_append h [] ys none = refl
first_append h (x ∷ xs) ys none = skips (h x) (first_some h xs) (first_some h (xs ++ ys)) _ none (λ rest. first_append h xs ys rest)

-- the first bad number is told, whatever comes behind
first_bad : {Y : Type 0} (h : ℕ → Option Y) (n k : ℕ) (y : Y) → first_some h (numbers n) ≡ None → h n ≡ Some y → first_some h (numbers (n + suc k)) ≡ Some y
first_bad h n k y none bad = rw (numbers-append n (suc k)) (first_append h (numbers n) _ none ∙ (rw bad refl))

-- what is refused first is refused
pub first_why : (o p : Option TraceFault) (e : TraceError) → IsWhy o e → IsWhy (option_or o p) e
first_why o p (RefusedText fault) bad = rw bad refl
first_why o p NoMemory bad = tt

-- The lines that say something.

onto : (b : Bool) (w l : List (List ℕ)) (ls : List (List (List ℕ))) → w ∷ cond b (ls ++ l ∷ []) ls ≡ cond b (w ∷ ls ++ l ∷ []) (w ∷ ls)
onto true w l ls = refl
onto false w l ls = refl

pub significant-push : (before : List (List ℕ)) (line : List ℕ) → significant (before ++ line ∷ []) ≡ with_significant (significant before) line
significant-push [] line =
    elim (cases_Bool (is_significant (words_of line))) [
      | inl says ↦ rw says refl
      | inr nothing ↦ rw nothing refl
    ]
significant-push (l ∷ before) line =
    elim (cases_Bool (is_significant (words_of l))) [
      | inl says ↦ rw says (ap (λ (ls : List (List (List ℕ))). words_of l ∷ ls) (significant-push before line)
          ∙ onto (is_significant (words_of line)) (words_of l) (words_of line) (significant before))
      | inr nothing ↦ rw nothing (significant-push before line)
    ]

-- One line, where words_fault tells what is wrong with its words.

module _ (words_fault : List (List (List ℕ)) → List (List ℕ) → Option LineFault) (line : List ℕ) where
  -- a line whose bytes are bad
  pub bad_bytes : (lines : List (List (List ℕ))) (cause : Cause) → Some cause ≡ bytes_fault line →
      line_fault_by words_fault lines line ≡ Some (whole_line cause)
  bad_bytes lines cause bad = rw (← bad) refl

  module _ (fits : None ≡ bytes_fault line) (IsRead : List (List (List ℕ)) → Type 0) where
    -- a line that says nothing
    pub skips_line : false ≡ is_significant (words_of line) → (lines : List (List (List ℕ))) → IsRead lines →
        (line_fault_by words_fault lines line ≡ None) × IsRead (with_significant lines line)
    skips_line nothing lines read = (rw (← fits, ← nothing) refl, rw (← nothing) read)

    module _ (says : true ≡ is_significant (words_of line)) where
      pub accepts_line : (IsNowRead : List (List (List ℕ)) → Type 0) →
          ((lines : List (List (List ℕ))) → IsRead lines →
          (words_fault lines (words_of line) ≡ None) × IsNowRead (lines ++ words_of line ∷ [])) →
          (lines : List (List (List ℕ))) → IsRead lines →
          (line_fault_by words_fault lines line ≡ None) × IsNowRead (with_significant lines line)
      accepts_line IsNowRead accepts lines read =
          let fine = accepts lines read in
          (rw (← fits, ← says) fine.0, rw (← says) fine.1)

      pub refuses_line : (cause : LineFault) →
          ((lines : List (List (List ℕ))) → IsRead lines → words_fault lines (words_of line) ≡ Some cause) →
          (lines : List (List (List ℕ))) → IsRead lines → line_fault_by words_fault lines line ≡ Some cause
      refuses_line cause refuses lines read = rw (← fits, ← says) (refuses lines read)

      pub stops_line : (e : LineError) →
          Stops (λ cause. (lines : List (List (List ℕ))) → IsRead lines → words_fault lines (words_of line) ≡ Some cause) e →
          Stops (λ cause. (lines : List (List (List ℕ))) → IsRead lines → line_fault_by words_fault lines line ≡ Some cause) e
      stops_line (Refused cause) refuses = refuses_line cause refuses
      stops_line Memory refuses = tt

-- All lines, one by one, where line_fault tells what is wrong with a line.

read_at_end : (xs : List (List ℕ)) (y : List ℕ) (ys : List (List ℕ)) → get_or (xs ++ y ∷ ys) (length xs) [] ≡ y
read_at_end [] y ys = refl
read_at_end (x ∷ xs) y ys = read_at_end xs y ys

module _ (line_fault : List (List (List ℕ)) → List ℕ → Option LineFault) where
  -- the first fault of a line
  abbrev pub first_by : List (List ℕ) → Option TraceFault
  first_by lines = first_some (fault_by line_fault lines) (numbers (length lines))

  -- the fault of a line behind those before it
  fault_here : (lines before after : List (List ℕ)) (line : List ℕ) → lines ≡ before ++ line ∷ after →
      fault_by line_fault lines (length before)
      ≡ option_map (λ fault. record { line = length before + 1; word = fault.word; cause = fault.cause }) (line_fault (significant before) line)
  fault_here lines before after line are = rw (are, take-append_seam before (line ∷ after), read_at_end before line after) refl

  module _ (IsRead : List (List (List ℕ)) → Type 0) (bytes : List ℕ) where
    -- nothing is read yet
    pub read_nothing : (lines : List (List ℕ)) → lines ≡ lines_of bytes → length lines ≤ length bytes → IsRead [] →
        AreRead line_fault IsRead bytes lines 0
    read_nothing lines are few none = record {
      before = [];
      lines = sym are;
      count = refl;
      fine = rw numbers-none refl;
      read = none;
      room = omega arith;
    }

    module _ (line : List ℕ) (left behind : List (List ℕ)) (number : ℕ) (so_far : AreRead line_fault IsRead bytes left number)
        (next : left ≡ line ∷ behind) where
      whole : lines_of bytes ≡ so_far.before ++ line ∷ behind
      whole = so_far.lines ∙ ap (λ (ls : List (List ℕ)). so_far.before ++ ls) next

      here : fault_by line_fault (lines_of bytes) number
          ≡ option_map (λ fault. record { line = number + 1; word = fault.word; cause = fault.cause }) (line_fault (significant so_far.before) line)
      here = rw so_far.count (fault_here (lines_of bytes) so_far.before behind line whole)

      -- one line more is read
      pub read_more : (IsNowRead : List (List (List ℕ)) → Type 0) →
          ((lines : List (List (List ℕ))) → IsRead lines → (line_fault lines line ≡ None) × IsNowRead (with_significant lines line)) →
          AreRead line_fault IsNowRead bytes behind (number + 1)
      read_more IsNowRead accepts =
          let fine = accepts (significant so_far.before) so_far.read in
          let none : fault_by line_fault (lines_of bytes) number ≡ None = here ∙ (rw fine.0 refl) in
          let count : number ≡ length so_far.before = so_far.count in
          let room : number + length left ≤ length bytes = so_far.room in
          let one : length left ≡ suc (length behind) = ap length next in
          record {
            before = so_far.before ++ line ∷ [];
            lines = whole ∙ (rw append_assoc refl);
            count = omega (arith, length-append so_far.before (line ∷ []));
            fine = rw (numbers-more number) (first_same (fault_by line_fault (lines_of bytes)) (numbers number) number none ∙ so_far.fine);
            read = subst IsNowRead (sym (significant-push so_far.before line)) fine.1;
            room = omega arith;
          }

      -- a line is not read
      pub read_stops : (e : LineError) →
          Stops (λ cause. (lines : List (List (List ℕ))) → IsRead lines → line_fault lines line ≡ Some cause) e →
          IsWhy (first_by (lines_of bytes)) (at_line (number + 1) e)
      read_stops (Refused cause) refuses =
          let bad : fault_by line_fault (lines_of bytes) number ≡ Some (fault_of (number + 1) cause) =
          here ∙ (rw (refuses (significant so_far.before) so_far.read) refl) in
          let long : length (lines_of bytes) ≡ number + suc (length behind) = ap length whole
          ∙ (length-append so_far.before (line ∷ behind) ∙ (rw (← so_far.count) refl)) in
          rw long (first_bad (fault_by line_fault (lines_of bytes)) number (length behind) _ so_far.fine bad)
      read_stops Memory refuses = tt

    module _ (number : ℕ) (read : AreRead line_fault IsRead bytes [] number) where
      all_lines : read.before ≡ lines_of bytes
      all_lines = sym (read.lines ∙ (rw append-nil refl))

      -- all lines of the text are read
      pub all_read : IsRead (significant (lines_of bytes))
      all_read = subst (λ (ls : List (List ℕ)). IsRead (significant ls)) all_lines read.read

      pub line_number : length (lines_of bytes) ≡ number
      line_number = ap length (sym all_lines) ∙ sym read.count

      pub none_bad : first_by (lines_of bytes) ≡ None
      none_bad = rw line_number read.fine
