-- A journal with one entry more agrees where it agreed without, and the entry does.
use Rattle.std.proofs.Common.{◌≡◌, ℕ, ◌≤◌, List, [], ◌∷◌, ◌++◌, length, take, refl, sym, ◌∙◌, ap, subst, inl, inr, arith, append_assoc, length-append}
use Rattle.std.specs.Prelude.{IfSome}
use Rattle.std.proofs.lemmas.Bool.{cases_lt}
use Rattle.std.proofs.lemmas.List.{length_push, take_all, take-append-le}
use Rattle.sem_msg.specs.declared.event.Act.TheVariants.{Kill}
use Rattle.sem_msg.specs.declared.entry.Entry.{Entry}
use Rattle.sem_msg.specs.Setup.{Setup}
use Rattle.sem_msg.specs.Journal.{replies, flushed, fetched, kill_number, LeadsBy, Agrees}
use Rattle.sem_msg.proofs.Snocs.{snoc-cases}

-- what was flushed and fetched of each pair of kernels
abbrev pub LinksLead : Setup → List Entry → Type 0
LinksLead T J = (i j : ℕ) → LeadsBy T.window (flushed J i j) (fetched J i j)

-- an entry that is a kill comes after so many replies as are declared
abbrev pub IsDue : Setup → List Entry → Entry → Type 0
IsDue T J e = (v : ℕ) → e.event.act ≡ Kill v → IfSome (kill_number T v) (λ n. n ≤ length (replies J))

module _ (T : Setup) where
  pub agrees-none : Agrees T []
  agrees-none = record {
    links = λ n i j. subst (LinksLead T) (sym (take_all n [] (omega arith))) (λ a b. record { rest = []; begins = refl; few = omega arith }) i j;
    kills = λ before after e v same act. absurd (no_entry before after e same);
  }
    where
      no_entry : (before after : List Entry) (e : Entry) → [] ≡ before ++ e ∷ after → ⊥
      no_entry before after e same = let long : 0 ≡ length (before ++ e ∷ after) = ap length same in let sum = length-append before (e ∷ after) in
          omega (arith, long, sum)

  module _ (J : List Entry) (e : Entry) where
    pub agrees-snoc : Agrees T J → LinksLead T (J ++ e ∷ []) → IsDue T J e → Agrees T (J ++ e ∷ [])
    agrees-snoc is lead due = record { links = links; kills = kills }
      where
        links : (n : ℕ) → LinksLead T (take n (J ++ e ∷ []))
        links n = elim (cases_lt (length J) n) [
          | inl past ↦ let long = length_push J e in subst (LinksLead T) (sym (take_all n (J ++ e ∷ []) (omega (arith, long, past)))) lead
          | inr within ↦ subst (LinksLead T) (sym (take-append-le n J (e ∷ []) within)) (is.links n)
        ]

        kills : (before after : List Entry) (x : Entry) (v : ℕ) → J ++ e ∷ [] ≡ before ++ x ∷ after → x.event.act ≡ Kill v →
            IfSome (kill_number T v) (λ n. n ≤ length (replies before))
        kills before after x v same act = elim (snoc-cases J before after e x same) [
          | inl (front, last) ↦ subst (λ (B : List Entry). IfSome (kill_number T v) (λ n. n ≤ length (replies B))) (sym front)
              (due v (ap (λ (y : Entry). y.event.act) (sym last) ∙ act))
          | inr (mid, inner) ↦ is.kills before mid x v inner act
        ]

    -- it agrees without the entry
    pub agrees-front : Agrees T (J ++ e ∷ []) → Agrees T J
    agrees-front is =
        record {
          links = links;
          kills = λ before after x v same act. is.kills before (after ++ e ∷ []) x v (ap (λ (L : List Entry). L ++ e ∷ []) same
              ∙ append_assoc before (x ∷ after) (e ∷ [])) act;
        }
      where
        links : (n : ℕ) → LinksLead T (take n J)
        links n = elim (cases_lt (length J) n) [
          | inl past ↦ subst (LinksLead T) (take-append-le (length J) J (e ∷ []) (omega arith)
              ∙ (take_all (length J) J (omega arith) ∙ sym (take_all n J (omega (arith, past))))) (is.links (length J))
          | inr within ↦ subst (LinksLead T) (take-append-le n J (e ∷ []) within) (is.links n)
        ]

    -- and the entry does
    pub agrees-due : Agrees T (J ++ e ∷ []) → IsDue T J e
    agrees-due is = λ v act. is.kills J [] e v refl act

  pub agrees-whole : (J : List Entry) → Agrees T J → LinksLead T J
  agrees-whole J is = subst (LinksLead T) (take_all (length J) J (omega arith)) (is.links (length J))
