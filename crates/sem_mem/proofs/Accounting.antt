-- The account of accesses, with one access more.
use Rattle.std.proofs.Common.{◌≡◌, ℕ, ◌+◌, ◌<◌, ◌≤◌, true, cond, List, [], ◌∷◌, ◌++◌, length, map, take, get_or, Some, None, refl, sym, ◌∙◌, ap, subst, arith}
use Rattle.std.proofs.Common.{append-nil}
use Rattle.std.specs.List.{All, filter}
use Rattle.std.specs.Prelude.{nat_lt, not}
use Rattle.std.specs.Option.{option_to_list}
use Rattle.std.proofs.lemmas.Bool.{cond-false, and_left, le-ltb}
use Rattle.std.proofs.lemmas.List.{take_all, length-append}
use Rattle.std.proofs.lemmas.List.Elements.{All-head, All-tail, All-weaker, All-filter, filter-append}
use Rattle.std.proofs.Math.Seq.{take-append_seam, get_or-append_seam}
use Rattle.sem_key.specs.declared.limits.TheConstants.{ADDRESSES}
use Rattle.sem_msg.specs.declared.entry.Entry.{Entry}
use Rattle.sem_msg.specs.Setup.{Setup, IsSetup}
use Rattle.sem_text.specs.Lines.{line, text}
use Rattle.sem_machine.specs.Machine.{start, is_enabled, entry_of}
use Rattle.sem_machine.specs.Schedules.{IsSchedule, world_after}
use Rattle.sem_safety.proofs.GoingOn.{entry-enabled}
use Rattle.sem_access.specs.declared.access.Access.{Access}
use Rattle.sem_access.specs.declared.run.Run.{Run}
use Rattle.sem_access.specs.Accesses.{accesses}
use Rattle.sem_access.specs.Transfers.{transfer_of, access_by}
use Rattle.sem_access.specs.LastWrites.{is_write_at, is_write_before, greatest, greatest_entry, last_write_in, looked}
use Rattle.sem_access.specs.Runs.{entry_at, IsNewer}
use Rattle.sem_access.specs.ContentsText.{read_line, reads, found_by}
use Rattle.sem_access.proofs.Gathering.{gather-more}
use Rattle.sem_mem.specs.Reading.{AreInOrder, AreBefore}
use Rattle.sem_mem.specs.declared.account.Account.{Account}
use Rattle.sem_mem.specs.Accounts.{IsAccount, IsAccountOf, IsAccountBefore}
use Rattle.sem_mem.proofs.Ordering.{in-order}
use Rattle.sem_mem.proofs.Telling.{told_reads, looked-same, before-it, kept-more, found-here, told-more, fits-here}

-- What an access finds does not change by later ones.

last-same : (xs : List Access) (x : Access) (n a : ℕ) → n ≤ x.entry → last_write_in (xs ++ x ∷ []) n a ≡ last_write_in xs n a
last-same xs x n a early =
    let none : filter (is_write_before n a) (x ∷ []) ≡ [] =
    cond-false (is_write_before n a x) (x ∷ []) [] (and_left (nat_lt x.entry n) (is_write_at a x) (le-ltb x.entry n early)) in
    ap (λ zs. greatest (map (λ (y : Access). y.entry) zs))
    (filter-append (is_write_before n a) xs (x ∷ []) ∙ (ap (λ zs. filter (is_write_before n a) xs ++ zs) none ∙ append-nil (filter (is_write_before n a) xs)))

found-same : (xs : List Access) (x y : Access) → y.entry < x.entry → found_by (xs ++ x ∷ []) y ≡ found_by xs y
found-same xs x y early = looked-same (last_write_in (xs ++ x ∷ []) y.entry) (last_write_in xs y.entry) (λ a. last-same xs x y.entry a (omega (arith, early)))
    y.base y.len

map-same : (f g : Access → List (List ℕ)) (zs : List Access) → All (λ z. f z ≡ g z) zs → map f zs ≡ map g zs
map-same f g [] same = refl
map-same f g (z ∷ zs) same =
    ap (λ l. l ∷ map f zs) (All-head (λ (y : Access). f y ≡ g y) z zs same)
    ∙ ap (λ ls. g z ∷ ls) (map-same f g zs (All-tail (λ (y : Access). f y ≡ g y) z zs same))

earlier-told : (xs : List Access) (x : Access) → AreBefore x.entry xs → told_reads (xs ++ x ∷ []) xs ≡ told_reads xs xs
earlier-told xs x before =
    ap text (map-same (λ y. read_line y (found_by (xs ++ x ∷ []) y)) (λ y. read_line y (found_by xs y)) (reads xs)
    (All-weaker (λ (y : Access). y.entry < x.entry) (λ (y : Access). read_line y (found_by (xs ++ x ∷ []) y) ≡ read_line y (found_by xs y))
    (λ y early. ap (read_line y) (found-same xs x y early)) (reads xs)
    (All-filter (λ (y : Access). not y.write) (λ (y : Access). y.entry < x.entry) xs before)))

-- One access more, which stands behind the others.
module _ (xs : List Access) (x : Access) (order : AreInOrder (xs ++ x ∷ [])) where
  abbrev ys : List Access
  ys = xs ++ x ∷ []

  abbrev i : ℕ
  i = length xs

  at : x ≡ get_or ys i x
  at = sym (get_or-append_seam xs x [] x)

  within : i < length ys
  within = let count = length-append xs (x ∷ []) in omega (arith, count)

  seam : take i ys ≡ xs
  seam = take-append_seam xs (x ∷ [])

  whole : take (i + 1) ys ≡ ys
  whole = let count = length-append xs (x ∷ []) in take_all (i + 1) ys (omega (arith, count))

  pub past-before : AreBefore x.entry xs
  past-before = subst (AreBefore x.entry) seam (before-it ys order i x at within)

  pub last-fits : x.base + x.len ≤ ADDRESSES
  last-fits = fits-here ys order i x at within

  pub account-more : (old new : Account) → IsAccount xs old
      → ((a : ℕ) → entry_at new.memory a ≡ cond (is_write_at a x) (Some x.entry) (entry_at old.memory a))
      → IsNewer new.memory (x.entry + 1)
      → new.lines.items ≡ old.lines.items ++ cond x.write [] (line (read_line x (looked (entry_at old.memory) x.base x.len)))
      → IsAccount ys new
  account-more old new is written newest appended =
      let kept : (a : ℕ) → entry_at old.memory a ≡ greatest_entry (is_write_at a) (take i ys) = λ a. is.kept a
      ∙ ap (greatest_entry (is_write_at a)) (sym seam) in
      record {
        kept = λ a. kept-more ys order i x at within (entry_at old.memory) (entry_at new.memory) kept written a ∙ ap (greatest_entry (is_write_at a)) whole;
        newer = λ n before.
            let last : x.entry < n = subst (λ (y : Access). y.entry < n) (get_or-append_seam xs x [] x) (before i x within) in
            All-weaker (λ (r : Run). r.entry < x.entry + 1) (λ (r : Run). r.entry < n) (λ r few. omega (arith, few, last)) new.memory newest;
        told =
            appended
            ∙ (ap (λ l. old.lines.items ++ cond x.write [] (line (read_line x l))) (found-here ys order i x at within (entry_at old.memory) kept)
            ∙ (ap (λ bs. bs ++ cond x.write [] (line (read_line x (found_by ys x)))) (is.told
            ∙ (sym (earlier-told xs x past-before) ∙ ap (told_reads ys) (sym seam)))
            ∙ (sym (told-more ys order i x at within)
            ∙ ap (told_reads ys) whole)));
      }

-- the access of the next entry comes behind those of the past ones
pub accesses-next : (T : Setup) → IsSetup T → (past : List Entry) (e : Entry) → IsSchedule T (past ++ e ∷ []) →
    accesses T past ++ option_to_list (access_by T (world_after T past) (length past) (transfer_of e)) ≡ accesses T (past ++ e ∷ [])
accesses-next T valid past e runs =
    let J : List Entry = past ++ e ∷ [] in
    let n : ℕ = length past in
    let count = length-append past (e ∷ []) in
    let within : n < length J = omega (arith, count) in
    let seam : take n J ≡ past = take-append_seam past (e ∷ []) in
    let on = entry-enabled T past (start T) e [] runs in
    let whole : take (n + 1) J ≡ J = take_all (n + 1) J (omega (arith, count)) in
    let told : List Entry → List Access = λ K. accesses T K ++ option_to_list (access_by T (world_after T K) n (transfer_of e)) in
    ap told (sym seam)
    ∙ (gather-more T valid J n e within (sym (get_or-append_seam past e [] e))
    (subst (λ K. is_enabled T (world_after T K) e.event ≡ true) (sym seam) on.1)
    (subst (λ K. e ≡ entry_of T (world_after T K) e.event) (sym seam) on.2)
    (accesses T (take n J)) refl
    ∙ ap (accesses T) whole)

-- One entry more.
module _ (T : Setup) (valid : IsSetup T) (past : List Entry) (e : Entry) (runs : IsSchedule T (past ++ e ∷ [])) (old : Account)
    (is : IsAccountBefore T past e old) where
  -- it reads or writes nothing
  pub account-same : old.next ≡ None → IsAccountOf T (past ++ e ∷ []) old
  account-same none =
      let same : accesses T past ≡ accesses T (past ++ e ∷ []) = sym (append-nil (accesses T past))
      ∙ (ap (λ o. accesses T past ++ option_to_list o) (sym none ∙ is.next) ∙ accesses-next T valid past e runs) in
      subst (λ xs. IsAccount xs old) same is.past

  module _ (x : Access) (some : old.next ≡ Some x) where
    listed : accesses T past ++ x ∷ [] ≡ accesses T (past ++ e ∷ [])
    listed = ap (λ o. accesses T past ++ option_to_list o) (sym some ∙ is.next) ∙ accesses-next T valid past e runs

    pub order-here : AreInOrder (accesses T past ++ x ∷ [])
    order-here = subst AreInOrder (sym listed) (in-order T valid (past ++ e ∷ []) runs)

    pub next-fits : x.base + x.len ≤ ADDRESSES
    next-fits = last-fits (accesses T past) x order-here

    pub next-newer : IsNewer old.memory x.entry
    next-newer = is.past.newer x.entry (past-before (accesses T past) x order-here)

    pub account-next : (new : Account)
        → ((a : ℕ) → entry_at new.memory a ≡ cond (is_write_at a x) (Some x.entry) (entry_at old.memory a))
        → IsNewer new.memory (x.entry + 1)
        → new.lines.items ≡ old.lines.items ++ cond x.write [] (line (read_line x (looked (entry_at old.memory) x.base x.len)))
        → IsAccountOf T (past ++ e ∷ []) new
    account-next new written newest appended =
        subst (λ xs. IsAccount xs new) listed (account-more (accesses T past) x order-here old new is.past written newest appended)
