-- The ids of jobs rise, and each was drawn; a job that is found done is among the jobs.
use Rattle.std.proofs.Common.{◌≡◌, ℕ, ◌+◌, ◌<◌, not, ◌&&◌, List, [], ◌∷◌, map, get_or, Some, None, refl, sym, ◌∙◌, arith, zero, suc, subst, Option, inl, inr}
use Rattle.std.specs.Prelude.{◌==◌, if◌then◌else◌}
use Rattle.std.specs.List.{Contains, All, AllPairs, filter, range_with_len}
use Rattle.std.proofs.lemmas.Bool.{cond_both, cases_Bool, cond-true, cond-false}
use Rattle.std.proofs.lemmas.List.Kept.{AllPairs-filter}
use Rattle.std.proofs.lemmas.List.Quantifiers.{all_pairs_push}
use Rattle.std.proofs.lemmas.List.Elements.{All-append, All-cons, All-nil, All-filter, All-map, All-weaker}
use Rattle.sem_key.specs.Lists.{change}
use Rattle.sem_msg.specs.Rows.{JobRow}
use Rattle.sem_msg.specs.JobRows.{without_number, if_done, next_done}
use Rattle.sem_machine.specs.Sides.{Side, no_side, job}
use Rattle.sem_key.proofs.Members.{AllPairs-map, found}
use Rattle.sem_safety.proofs.Layers.{facts, IsKept}
use Rattle.sem_safety.proofs.Onwards.{Any, AnyPlace}
use Rattle.sem_msg.specs.Setup.{Setup}
use Rattle.sem_msg.specs.Lookups.{pe_owner}
use Rattle.sem_machine.specs.Machine.{side, start, start_side, empty_side, root_added, vpe_added, vpe_fresh}
use Rattle.sem_machine.proofs.Folds.{in_turn-keeps}
use Rattle.std.proofs.lemmas.Option.{same_Some}
use Rattle.sem_msg.specs.declared.state.Up.{Up}
use Rattle.sem_msg.specs.declared.state.Up.TheVariants.{Local, Remote}

-- jobs by rising id
abbrev pub IdsRise : List JobRow → Type 0
IdsRise xs = AllPairs (λ a b. a.id < b.id) xs

pub record HasIds (s : Side) : Type 0 where
  pub rise : IdsRise s.jobs
  pub drawn : All (λ (x : JobRow). x.id < s.next_job) s.jobs

-- a change that leaves the ids
rise-map : (f : JobRow → JobRow) → ((x : JobRow) → (f x).id ≡ x.id) → (xs : List JobRow) → IdsRise xs → IdsRise (map f xs)
rise-map f same xs rise = AllPairs-map (λ a b. a.id < b.id) f xs (λ i j d lt within. let one = same (get_or xs i d) in let two = same (get_or xs j d) in
    let below = rise i j d lt within in omega (arith, one, two, below))

drawn-map : (n : ℕ) (f : JobRow → JobRow) → ((x : JobRow) → (f x).id ≡ x.id) → (xs : List JobRow) → All (λ (x : JobRow). x.id < n) xs →
    All (λ (x : JobRow). x.id < n) (map f xs)
drawn-map n f same xs drawn = All-map (λ (x : JobRow). x.id < n) f xs (All-weaker (λ (x : JobRow). x.id < n) (λ x. (f x).id < n) (λ x below. let one = same x in
    omega (arith, one, below)) xs drawn)

ids-changed : (s : Side) → HasIds s → (j : ℕ) (f : JobRow → JobRow) → ((x : JobRow) → ((f x).id ≡ x.id) × ((f x).root ≡ x.root)) →
    HasIds (record s { jobs = change (λ x. x.id == j) f s.jobs })
ids-changed s is j f same =
    let g : JobRow → JobRow = λ x. if x.id == j then f x else x in
    let keeps : (x : JobRow) → (g x).id ≡ x.id = λ x. cond_both (x.id == j) (f x) x (λ (y : JobRow). y.id ≡ x.id) (λ _. (same x).0) (λ _. refl) in
    record { rise = rise-map g keeps s.jobs is.rise; drawn = drawn-map s.next_job g keeps s.jobs is.drawn }

pub ids : IsKept (facts Any AnyPlace) HasIds
ids = record {
  keeps_counted = λ s is v. record { rise = is.rise; drawn = is.drawn };
  keeps_drawn = λ s is v. record { rise = is.rise; drawn = is.drawn };
  keeps_slot = λ s is v sel state of_vpe. record { rise = is.rise; drawn = is.drawn };
  keeps_parked = λ s is v p here. record { rise = is.rise; drawn = is.drawn };
  keeps_unparked = λ s is v. record { rise = is.rise; drawn = is.drawn };
  keeps_asked = λ s is v a here. record { rise = is.rise; drawn = is.drawn };
  keeps_taken = λ s is v. record { rise = is.rise; drawn = is.drawn };
  keeps_buried = λ s is v ends. record { rise = is.rise; drawn = is.drawn };
  keeps_bound = λ s is v ep src c held unmarked here. record { rise = is.rise; drawn = is.drawn };
  keeps_rung = λ s is v ep f. record { rise = is.rise; drawn = is.drawn };
  keeps_added = λ s is c here childless unmarked. record { rise = is.rise; drawn = is.drawn };
  keeps_linked = λ s is p k here. record { rise = is.rise; drawn = is.drawn };
  keeps_unlinked = λ s is p k. record { rise = is.rise; drawn = is.drawn };
  keeps_marked = λ s is ks j here. record { rise = is.rise; drawn = is.drawn };
  keeps_restored = λ s is k. record { rise = is.rise; drawn = is.drawn };
  keeps_removed = λ s is j. record { rise = is.rise; drawn = is.drawn };
  keeps_pending_added = λ s is p pends. record { rise = is.rise; drawn = is.drawn };
  keeps_pending_removed = λ s is k. record { rise = is.rise; drawn = is.drawn };
  keeps_opened = λ s is root up waiters keep. record {
    rise = all_pairs_push (λ a b. a.id < b.id) s.jobs (record { id = s.next_job; root = root; up = up; waiters = waiters; count = 0; keep = keep }) is.rise
        is.drawn;
    drawn = All-append (λ (x : JobRow). x.id < s.next_job + 1) s.jobs (record {
      id = s.next_job;
      root = root;
      up = up;
      waiters = waiters;
      count = 0;
      keep = keep;
    } ∷ [])
        (All-weaker (λ (x : JobRow). x.id < s.next_job) (λ (x : JobRow). x.id < s.next_job + 1) (λ x below. omega (arith, below)) s.jobs is.drawn)
        (All-cons (λ (x : JobRow). x.id < s.next_job + 1) (record { id = s.next_job; root = root; up = up; waiters = waiters; count = 0; keep = keep }) []
        (omega arith) (All-nil (λ (x : JobRow). x.id < s.next_job + 1)));
  };
  keeps_changed = λ s is j f same. ids-changed s is j f same;
  keeps_left = λ s is j v. record {
    rise = rise-map (λ (x : JobRow). record x { waiters = without_number x.waiters v; keep = x.keep && not ((x.id == j) && (x.root.vpe == v)) })
        (λ x. refl) s.jobs is.rise;
    drawn = drawn-map s.next_job (λ (x : JobRow). record x { waiters = without_number x.waiters v; keep = x.keep && not ((x.id == j) && (x.root.vpe == v)) })
        (λ x. refl) s.jobs is.drawn;
  };
  keeps_closed = λ s is j. record {
    rise = AllPairs-filter (λ a b. a.id < b.id) (λ x. not (x.id == j)) s.jobs is.rise;
    drawn = All-filter (λ (x : JobRow). not (x.id == j)) (λ (x : JobRow). x.id < s.next_job) s.jobs is.drawn;
  };
  keeps_send = λ s is j msg here. record { rise = is.rise; drawn = is.drawn };
  keeps_sent = λ s is j. record { rise = is.rise; drawn = is.drawn };
  keeps_inbox = λ s is message here. record { rise = is.rise; drawn = is.drawn };
  of_link = λ s is c among k child. tt;
  spreads = λ p k here doomed. tt;
  asks = λ v n calls is. is;
  offers = λ k o is. tt;
  prepares = λ parent k object sel offered place handed. (tt, place);
  acks = λ parent k prepared offered is. is;
  of_pending = λ s is k p there acked. acked;
}

-- no job is open at the start
pub bare : (s : Side) → s.jobs ≡ [] → HasIds s
bare s none = record {
  rise = subst (λ (xs : List JobRow). AllPairs (λ a b. a.id < b.id) xs) (sym none) (λ i j d lt within. absurd (omega (arith, lt, within)));
  drawn = subst (λ (xs : List JobRow). All (λ (x : JobRow). x.id < s.next_job) xs) (sym none) (All-nil (λ (x : JobRow). x.id < s.next_job));
}

pub side-ids : (T : Setup) (i : ℕ) → HasIds (start_side T i)
unfolding start_side
side-ids T i = bare _
    (in_turn-keeps (λ (t : Side). t.jobs ≡ []) vpe_added (λ d t here. in_turn-keeps (λ (u : Side). u.jobs ≡ []) (root_added d) (λ r u same. same) d.roots
    (vpe_fresh d t) here) (filter (λ d. pe_owner T d.pe == i) T.vpes) (empty_side T) refl)

pub start-ids : (T : Setup) (i : ℕ) → HasIds (side (start T) i)
unfolding start
start-ids T i = from (range_with_len 0 T.kernels) i
  where
    from : (is : List ℕ) (j : ℕ) → HasIds (get_or (map (start_side T) is) j no_side)
    from [] j = bare no_side refl
    from (n ∷ ns) zero = side-ids T n
    from (n ∷ ns) (suc j) = from ns j

-- Jobs that are done.

pub done-among : (s : Side) (j : ℕ) (y : JobRow) → if_done (job s j) ≡ Some y → Contains s.jobs y
done-among s j y done = from (job s j) refl done
  where
    from : (o : Option JobRow) → job s j ≡ o → if_done o ≡ Some y → Contains s.jobs y
    from None none done = absurd cc
    from (Some x) some done =
        let there = found (λ (z : JobRow). z.id == j) s.jobs x some in
        elim (cases_Bool (x.count == 0)) [
          | inl zero' ↦ subst (Contains s.jobs) (same_Some x y (sym (cond-true (x.count == 0) (Some x) None zero') ∙ done)) there.0
          | inr more ↦ let none : None ≡ Some y = sym (cond-false (x.count == 0) (Some x) None more) ∙ done in absurd cc
        ]

pub next-among : (up : Option Up) (s : Side) (y : JobRow) → next_done up s.jobs ≡ Some y → Contains s.jobs y
next-among None s y next = absurd cc
next-among (Some (Local j)) s y next = done-among s j y next
next-among (Some (Remote kernel j)) s y next = absurd cc
