-- A job is closed, and those that are done by that, one after the other.
use Rattle.std.proofs.Common.{◌≡◌, ℕ, zero, suc, ◌+◌, ◌≤◌, Bool, true, false, not, ◌&&◌, List, length, Option}
use Rattle.std.proofs.Common.{Some, None, refl, sym, ap, ◌∙◌, subst, inl, inr}
use Rattle.std.proofs.Common.{arith, eq-eqb, ◌⊎◌}
use Rattle.std.specs.Prelude.{◌==◌, if◌then◌else◌}
use Rattle.std.specs.List.{sum_by}
use Rattle.std.specs.Option.{option_map, option_map_or, option_and_then}
use Rattle.std.proofs.lemmas.Bool.{cases_Bool, cases_eq, cond-true, cond-false, cond_both, eqb-true, eqb-false, ne_eqb, and_from, true≢false}
use Rattle.std.proofs.lemmas.Bool.{false_from_ne_true}
use Rattle.std.proofs.lemmas.Option.{same_Some}
use Rattle.sem_key.specs.KeyName.{KeyName, key_eq}
use Rattle.sem_key.specs.Lists.{put}
use Rattle.sem_key.specs.Capability.{Capability}
use Rattle.sem_key.specs.CapList.{is_marked_by, marked_by, restored}
use Rattle.sem_msg.specs.declared.message.Message.TheVariants.{RevokeDone, Unlink}
use Rattle.sem_msg.specs.declared.state.Parked.{Parked}
use Rattle.sem_msg.specs.declared.state.Parked.TheVariants.{Ready}
use Rattle.sem_msg.specs.declared.state.Slot.TheVariants.{Free}
use Rattle.sem_msg.specs.declared.state.Up.{Up}
use Rattle.sem_msg.specs.declared.state.Up.TheVariants.{Local, Remote}
use Rattle.sem_msg.specs.Rows.{JobRow, VpeRow, no_vpe}
use Rattle.sem_machine.specs.Machine.{side}
use Rattle.sem_msg.specs.Lookups.{is_local}
use Rattle.sem_machine.specs.Sides.{Side, row, cap, job, freed, parked_as, unlinked, caps_removed, job_removed, send}
use Rattle.sem_machine.specs.Revokes.{all_freed, spared, selectors_freed, swept, all_woken, woken, parent_left, up_told, closed, count_lowered, finish, settled}
use Rattle.sem_machine.specs.Revokes.{closed_here}
use Rattle.sem_machine.proofs.Late.{closed_here-late}
use Rattle.sem_msg.specs.JobRows.{if_done, next_done}
use Rattle.sem_key.proofs.KeyTests.{key_eq-same, key_eq-true, key_eq-from}
use Rattle.sem_safety.specs.Observations.{AreDistinct, ObservedSide, if_kept}
use Rattle.sem_machine.proofs.Folds.{in_turn-keeps}
use Rattle.sem_safety.proofs.Updates.{seen-cap_changed, seen-caps_removed, seen-job_removed}
use Rattle.sem_machine.proofs.Weighing.{weigh-none, weigh-put}
use Rattle.sem_safety.proofs.Lives.{at_side, at_cap, at_parked, lives-parked, lives-send}
use Rattle.sem_sound.proofs.Rising.{filtered-rises}
use Rattle.sem_safety.proofs.JobIds.{ids}
use Rattle.sem_revoke.specs.Views.{Obligations, no_obligations, token, closing_job}
use Rattle.sem_revoke.specs.Scales.{of_side, bit, names, requesting, naming, counting, noticing, straying}
use Rattle.sem_revoke.proofs.Keeping.{HoldsOn, holds-same, fit-on, keep, Sweeps, keep_swept, fit-swept, not-gone}
use Rattle.sem_revoke.proofs.Scaling.{side-removed}
use Rattle.sem_revoke.proofs.Viewing.{on_its_way, Rises, rises_distinct, Scene, one-more, one-true, owner, view, IsAlive, IsGone, IsMarked, Row, hold-here}
use Rattle.sem_revoke.proofs.Viewing.{hold-away, job-here, mark-lost, job-away, job-id, rows-changed, row-sent, obligations-changed}
use Rattle.sem_revoke.proofs.Restoring.{cleared, oldest-root, Restores, fit-restored, keep_restored}
use Rattle.sem_revoke.proofs.Closing.{changed-rises, asked-token, open-count, counted-open, row-lowered, back-cap, unlinked-gone, row-unlinked}

-- the row owes the token of a job's `up`
abbrev pub above : ℕ → Option Up → Obligations
above i up = record { cares = λ a b k. ⊥; owed = λ a b. bit (names i up a b); loose = λ a b. ⊥ }

-- What a job marks is removed.
module _ (n : ℕ) (s : Side) (distinct : AreDistinct s.caps) where
  abbrev swept_side : Side
  swept_side = caps_removed n s

  cap-t : (k : KeyName) → cap swept_side k ≡ if_kept (λ c. not (is_marked_by n c)) (cap s k)
  cap-t k = ap (λ (z : ObservedSide). z.cap k) (seen-caps_removed n s distinct)

  swept-cap : (k : KeyName) (c : Capability) → cap s k ≡ Some c → c.mark ≡ Some n → cap swept_side k ≡ None
  swept-cap k c held marked =
      let is_so : is_marked_by n c ≡ true = ap (λ m. option_map_or (λ q. q == n) m false) marked ∙ eq-eqb n n refl in
      cap-t k ∙ (ap (if_kept (λ c. not (is_marked_by n c))) held ∙ cond-false (not (is_marked_by n c)) (Some c) None (ap not is_so))

  unmarked : (c : Capability) → (c.mark ≡ Some n → ⊥) → is_marked_by n c ≡ false
  unmarked c other = from c.mark refl
    where
      from : (m : Option ℕ) → c.mark ≡ m → option_map_or (λ q. q == n) m false ≡ false
      from None none = refl
      from (Some q) some = ne_eqb q n (λ same. other (some ∙ ap Some same))

  stays-cap : (k : KeyName) (c : Capability) → cap s k ≡ Some c → (c.mark ≡ Some n → ⊥) → cap swept_side k ≡ Some c
  stays-cap k c held other = cap-t k
      ∙ (ap (if_kept (λ c. not (is_marked_by n c))) held ∙ cond-true (not (is_marked_by n c)) (Some c) None (ap not (unmarked c other)))

  -- what is held is swept or stays
  pub swept-or : (k : KeyName) (c : Capability) → cap s k ≡ Some c → (cap swept_side k ≡ Some c) ⊎ (c.mark ≡ Some n)
  swept-or k c held = from c.mark refl
    where
      from : (m : Option ℕ) → c.mark ≡ m → (cap swept_side k ≡ Some c) ⊎ (c.mark ≡ Some n)
      from None none = inl (stays-cap k c held (λ marked. let no' : None ≡ Some n = sym none ∙ marked in absurd cc))
      from (Some q) some = elim (cases_eq q n) [
        | inl same ↦ inr (some ∙ ap Some same)
        | inr other ↦ inl (stays-cap k c held (λ marked. other (same_Some q n (sym some ∙ marked))))
      ]

  pub back-swept : (k : KeyName) (c : Capability) → cap swept_side k ≡ Some c → (cap s k ≡ Some c) × (c.mark ≡ Some n → ⊥)
  back-swept k c held = from (cap s k) refl
    where
      from : (o : Option Capability) → cap s k ≡ o → (o ≡ Some c) × (c.mark ≡ Some n → ⊥)
      from None none = let no' : None ≡ Some c = sym (cap-t k ∙ ap (if_kept (λ c. not (is_marked_by n c))) none) ∙ held in absurd cc
      from (Some d) some = elim (cases_Bool (is_marked_by n d)) [
        | inl swept_one ↦
            let no' : None ≡ Some c = sym (cap-t k
            ∙ (ap (if_kept (λ c. not (is_marked_by n c))) some ∙ cond-false (not (is_marked_by n d)) (Some d) None (ap not swept_one))) ∙ held in
            absurd cc
        | inr kept_one ↦
            let same : Some d ≡ Some c = sym (cap-t k
            ∙ (ap (if_kept (λ c. not (is_marked_by n c))) some ∙ cond-true (not (is_marked_by n d)) (Some d) None (ap not kept_one))) ∙ held in (
              same,
              λ marked.
                  let is_so : is_marked_by n c ≡ true = ap (λ m. option_map_or (λ q. q == n) m false) marked ∙ eq-eqb n n refl in
                  true≢false (sym is_so ∙ (ap (is_marked_by n) (sym (same_Some d c same)) ∙ kept_one)),
            )
      ]

module _ (C : Scene) where
  abbrev i : ℕ
  i = C.kernel

  pub freed-row : (h : Obligations) (v sel : ℕ) (s : Side) → Row C h s → Row C h (freed v sel s)
  freed-row h v sel s R = rows-changed C h s (put no_vpe s.vpes v (record (row s v) { slots = put Free (row s v).slots sel Free })) s.endpoints s.parks
      (λ k. omega arith) R

  pub parked-row : (h : Obligations) (v code : ℕ) (s : Side) → Row C h s → Row C h (parked_as v (Ready code) s)
  parked-row h v code s R = rows-changed C h s s.vpes s.endpoints (put None s.parks v (Some (Ready code))) (λ k. let less =
      lives-parked k on_its_way s v (Ready code) in omega (arith, less)) R

  -- A job that is being closed: nothing is marked by it. Its root is gone, or kept, and then no job waits for it.
  pub record Closing (x : JobRow) (s : Side) : Type 0 where
    pub row : Row C (closing_job i x.id) s
    pub open_ : job s x.id ≡ Some x
    pub gone : x.keep ≡ false → IsGone C s x.root × C.made x.root
    pub kept : x.keep ≡ true → x.up ≡ None
    pub clean : (k : KeyName) (c : Capability) → cap s k ≡ Some c → c.mark ≡ Some x.id → ⊥

  -- A job without a token out has asked for nothing.
  none-asked : (x : JobRow) (s : Side) → Row C no_obligations s → job s x.id ≡ Some x → x.count ≡ 0 → (k : KeyName) → (view C s).asked k i x.id ≡ 0
  none-asked x s R open_ done k =
      let few = asked-token C s k i x.id in
      let is = R.revokes.counted i x.id in
      let count = open-count C s x.id x R.ids open_ in
      omega (arith, few, is, count, done)

  -- held capabilities are none that come
  caps-no-gifts : (k : KeyName) (s : Side) (cs : List Capability) → at_side k on_its_way (record s { caps = cs }) ≡ at_side k on_its_way s
  caps-no-gifts k s cs =
      let one = weigh-none (at_cap k on_its_way) cs (λ c among. refl) in
      let two = weigh-none (at_cap k on_its_way) s.caps (λ c among. refl) in
      omega (arith, one, two)

  root-of : (x : JobRow) (s : Side) → Row C no_obligations s → job s x.id ≡ Some x → (owner C x.root ≡ i) × IsMarked C s x.root x.id
  root-of x s R open_ = elim (R.revokes.roots i x.id x (job-here C s x.id ∙ open_)) [ inl no' ↦ absurd no' | inr is ↦ is ]

  -- what it marks is lost, but for a root that it keeps
  marked-lost : (x : JobRow) (s : Side) → Row C no_obligations s → job s x.id ≡ Some x → (k : KeyName) (c : Capability) → cap s k ≡ Some c
      → c.mark ≡ Some x.id →
      (x.root ≡ k → x.keep ≡ false) → C.lost k
  marked-lost x s R open_ k c held marked leaves =
      let at = R.homes k c held in
      mark-lost C no_obligations s R k x.id x (c, hold-here C s k at ∙ held, marked) (ap (λ a. (view C s).job a x.id) at ∙ (job-here C s x.id ∙ open_)) leaves

  -- The root goes too.
  module _ (x : JobRow) (s : Side) (R : Row C no_obligations s) (open_ : job s x.id ≡ Some x) (done : x.count ≡ 0) (leaves : x.keep ≡ false) where
    abbrev n : ℕ
    n = x.id

    abbrev t : Side
    t = caps_removed n s

    sweeps : Sweeps (owner C) C.parent C.one_parent C.made i n (view C s) (view C t)
    sweeps = record {
      swept = λ k c here held marked. hold-here C t k here ∙ swept-cap n s (rises_distinct s.caps R.rises) k c (sym (hold-here C s k here) ∙ held) marked;
      stays = λ k c held other. elim (cases_eq (owner C k) i) [
        | inl here ↦ hold-here C t k here ∙ stays-cap n s (rises_distinct s.caps R.rises) k c (sym (hold-here C s k here)
            ∙ held) (λ marked. other (here, marked))
        | inr away ↦ hold-away C t k away ∙ (sym (hold-away C s k away) ∙ held)
      ];
      back = λ k c held. elim (cases_eq (owner C k) i) [
        | inl here ↦ let b = back-swept n s (rises_distinct s.caps R.rises) k c (sym (hold-here C t k here) ∙ held) in
            (hold-here C s k here ∙ b.0, λ (at', marked). b.1 marked)
        | inr away ↦ (hold-away C s k away ∙ (sym (hold-away C t k away) ∙ held), λ (at', marked). away at')
      ];
      fewer = λ k. let same = caps-no-gifts k s t.caps in omega (arith, same);
      none = none-asked x s R open_ done;
      asked_on = λ k a b. refl;
      jobs_on = λ a m. refl;
      counts = λ a b. let is = R.revokes.counted a b in omega (arith, is);
      notices = λ k. omega arith;
      misplaced = R.revokes.placed;
    }

    row-removed : Closing x t
    row-removed =
        let root = root-of x s R open_ in
        let c = root.1 in
        let zero' = R.fit.apart x.root c.0 c.1 in
        let same = caps-no-gifts x.root s t.caps in
        record {
          row = record {
            fit = fit-swept (owner C) C.parent C.one_parent C.made i n (view C s) (view C t) sweeps R.fit;
            revokes = keep_swept (owner C) C.parent C.one_parent C.made i n (view C s) (view C t) sweeps R.fit R.revokes;
            rises = filtered-rises (λ c. not (is_marked_by n c)) s.caps R.rises;
            ids = record { rise = R.ids.rise; drawn = R.ids.drawn };
            homes = λ k d held. R.homes k d (back-swept n s (rises_distinct s.caps R.rises) k d held).0;
            sent = record { inbox = R.sent.inbox; sends = R.sent.sends };
            caused = R.caused;
            lasts = λ k d was. elim (R.lasts k d was) [
              | inl (e, held) ↦ elim (swept-or n s (rises_distinct s.caps R.rises) k e held) [
                | inl stays ↦ inl (e, stays)
                | inr marked ↦ inr (marked-lost x s R open_ k e held marked (λ is_root. leaves))
              ]
              | inr is ↦ inr is
            ];
          };
          open_ = open_;
          gone = λ _. ((sweeps.swept x.root c.0 root.0 c.1 c.2, omega (arith, zero', same)), R.fit.made x.root (inl (c.0, c.1)));
          kept = λ keeps. let no' : false ≡ true = sym leaves ∙ keeps in absurd cc;
          clean = λ k d held. (back-swept n s (rises_distinct s.caps R.rises) k d held).1;
        }

  -- The root is kept: it loses its mark and its links, in the same change.
  module _ (x : JobRow) (s : Side) (R : Row C no_obligations s) (open_ : job s x.id ≡ Some x) (done : x.count ≡ 0) (keeps : x.keep ≡ true) where
    abbrev m : ℕ
    m = x.id

    abbrev spared_side : Side
    spared_side = record s { caps = restored s.caps x.root }

    abbrev restored_side : Side
    restored_side = caps_removed m spared_side

    spared-rises : Rises spared_side.caps
    spared-rises = changed-rises (λ c. key_eq c.key x.root) cleared (λ c. refl) s.caps R.rises

    distinct-spared : AreDistinct spared_side.caps
    distinct-spared = rises_distinct spared_side.caps spared-rises

    cap-spared : (k : KeyName) → cap spared_side k ≡ (if key_eq k x.root then option_map cleared (cap s k) else cap s k)
    cap-spared k = ap (λ (z : ObservedSide). z.cap k) (seen-cap_changed x.root cleared s (λ c. refl))

    root-spared : (c : Capability) → cap s x.root ≡ Some c → cap spared_side x.root ≡ Some (cleared c)
    root-spared c held = cap-spared x.root ∙ (cond-true (key_eq x.root x.root) (option_map cleared (cap s x.root)) (cap s x.root) (key_eq-same x.root)
        ∙ ap (option_map cleared) held)

    other-spared : (k : KeyName) → (k ≡ x.root → ⊥) → cap spared_side k ≡ cap s k
    other-spared k other = cap-spared k
        ∙ cond-false (key_eq k x.root) (option_map cleared (cap s k)) (cap s k)
        (false_from_ne_true (key_eq k x.root) (λ same. other (key_eq-true k x.root same)))

    -- all that is held but the root was held so
    back-cap-u : (k : KeyName) (c : Capability) → (k ≡ x.root → ⊥) → cap restored_side k ≡ Some c → (cap s k ≡ Some c) × (c.mark ≡ Some m → ⊥)
    back-cap-u k c other held = let b = back-swept m spared_side distinct-spared k c held in (sym (other-spared k other) ∙ b.0, b.1)

    stays-root : (k : KeyName) (c : Capability) → k ≡ x.root → owner C k ≡ i → cap s k ≡ Some c → c.mark ≡ Some m
    stays-root k c same here held =
        let root = (root-of x s R open_).1 in
        let is : root.0 ≡ c = same_Some root.0 c (sym root.1 ∙ (ap ((view C s).hold) (sym same) ∙ (hold-here C s k here ∙ held))) in
        ap (λ (d : Capability). d.mark) (sym is) ∙ root.2

    restores : Restores (owner C) C.parent C.one_parent C.made i m x.root (view C s) (view C restored_side)
    restores =
        let root = root-of x s R open_ in
        record {
          here = root.0;
          root_marked = root.1;
          oldest = oldest-root (owner C) C.parent C.one_parent C.made C.rank C.older no_obligations (view C s) R.revokes i m x (job-here C s m ∙ open_);
          restored = λ c held. hold-here C restored_side x.root root.0
              ∙ stays-cap m spared_side distinct-spared x.root (cleared c) (root-spared c (sym (hold-here C s x.root root.0) ∙ held)) (λ no'. absurd cc);
          swept = λ k c other here held marked. hold-here C restored_side k here
              ∙ swept-cap m spared_side distinct-spared k c (other-spared k other ∙ (sym (hold-here C s k here) ∙ held)) marked;
          stays = λ k c held other. elim (cases_eq (owner C k) i) [
            | inl here ↦
                let held' : cap s k ≡ Some c = sym (hold-here C s k here) ∙ held in
                hold-here C restored_side k here
                ∙ stays-cap m spared_side distinct-spared k c (other-spared k (λ same. other (here, stays-root k c same here held'))
                ∙ held') (λ marked. other (here, marked))
            | inr away ↦ hold-away C restored_side k away ∙ (sym (hold-away C s k away) ∙ held)
          ];
          back = λ k c other held. elim (cases_eq (owner C k) i) [
            | inl here ↦ let b = back-cap-u k c other (sym (hold-here C restored_side k here) ∙ held) in
                (hold-here C s k here ∙ b.0, λ (at', marked). b.1 marked)
            | inr away ↦ (hold-away C s k away ∙ (sym (hold-away C restored_side k away) ∙ held), λ (at', marked). away at')
          ];
          fewer = λ k. let same = caps-no-gifts k s restored_side.caps in omega (arith, same);
          none = none-asked x s R open_ done;
          asked_on = λ k a b. refl;
          jobs_on = λ a n. refl;
          counts = λ a b. let is = R.revokes.counted a b in omega (arith, is);
          notices = λ k. omega arith;
          misplaced = R.revokes.placed;
        }

    row-restored : Closing x restored_side
    row-restored = record {
      row = record {
        fit = fit-restored (owner C) C.parent C.one_parent C.made i m x.root (view C s) (view C restored_side) restores R.fit;
        revokes = keep_restored (owner C) C.parent C.one_parent C.made i m x.root (view C s) (view C restored_side) restores R.fit R.revokes;
        rises = filtered-rises (λ c. not (is_marked_by m c)) spared_side.caps spared-rises;
        ids = record { rise = R.ids.rise; drawn = R.ids.drawn };
        homes = λ k d held. elim (cases_Bool (key_eq k x.root)) [
          | inl same ↦ ap (owner C) (key_eq-true k x.root same) ∙ (root-of x s R open_).0
          | inr differ ↦ R.homes k d (back-cap-u k d (λ same. true≢false (sym (key_eq-from k x.root same) ∙ differ)) held).0
        ];
        sent = record { inbox = R.sent.inbox; sends = R.sent.sends };
        caused = R.caused;
        lasts = λ k d was. elim (R.lasts k d was) [
          | inl (e, held) ↦ elim (cases_Bool (key_eq k x.root)) [
            | inl same ↦
                let is_root : k ≡ x.root = key_eq-true k x.root same in
                let at : cap s x.root ≡ Some e = ap (cap s) (sym is_root) ∙ held in
                inl (
                  cleared e,
                  ap (cap restored_side) is_root
                      ∙ stays-cap m spared_side distinct-spared x.root (cleared e) (root-spared e at) (λ no'. absurd cc),
                )
            | inr differ ↦
                let other : k ≡ x.root → ⊥ = λ is_root. true≢false (sym (key_eq-from k x.root is_root) ∙ differ) in
                elim (swept-or m spared_side distinct-spared k e (other-spared k other ∙ held)) [
                  | inl stays ↦ inl (e, stays)
                  | inr marked ↦ inr (marked-lost x s R open_ k e held marked (λ is_root. absurd (other (sym is_root))))
                ]
          ]
          | inr is ↦ inr is
        ];
      };
      open_ = open_;
      gone = λ leaves. let no' : true ≡ false = sym keeps ∙ leaves in absurd cc;
      kept = λ _. R.revokes.alone i m x (job-here C s m ∙ open_) keeps;
      clean = λ k d held. (back-swept m spared_side distinct-spared k d held).1;
    }

  -- The parent of the root is left.

  unlinked-closing : (x : JobRow) (s : Side) (p : KeyName) → x.keep ≡ false → Closing x s → Closing x (unlinked p x.root s)
  unlinked-closing x s p leaves K = record {
    row = row-unlinked C s p x.root (K.gone leaves).0 (closing_job i x.id) K.row;
    open_ = K.open_;
    gone = λ _. (unlinked-gone C s p x.root x.root (K.gone leaves).0, (K.gone leaves).1);
    kept = K.kept;
    clean = λ k c held marked. let d = back-cap C s p x.root k c held in K.clean k d.0 d.1 (d.2 ∙ marked);
  }

  told-closing : (x : JobRow) (s : Side) (j : ℕ) (p : KeyName) → x.keep ≡ false → Closing x s → Closing x (send j (Unlink p x.root) s)
  told-closing x s j p leaves K = record {
    row = row-sent C (closing_job i x.id) (closing_job i x.id) s j (Unlink p x.root) (λ k a b. refl) (λ k. refl) refl (λ a b. refl) (λ a b k alive care. care)
        (λ a b k care. care) (λ a n loose. loose)
        (λ k more. let same : x.root ≡ k = key_eq-true x.root k (one-more (key_eq x.root k) more) in
        subst (λ z. IsGone C s z × C.made z) same (K.gone leaves)) K.row;
    open_ = K.open_;
    gone = λ _. let gifts = lives-send x.root on_its_way s j (Unlink p x.root) in let is = K.gone leaves in let zero' = is.0.1 in
        ((is.0.0, omega (arith, gifts, zero')), is.1);
    kept = K.kept;
    clean = K.clean;
  }

  -- the job is given by its parts
  left-closing : (id count : ℕ) (root : KeyName) (up : Option Up) (waiters : List ℕ) (keep : Bool) (o : Option KeyName) (s : Side)
      → Closing (record { id = id; root = root; up = up; waiters = waiters; count = count; keep = keep }) s
      → Closing (record { id = id; root = root; up = up; waiters = waiters; count = count; keep = keep })
      (parent_left C.setup i (record { id = id; root = root; up = up; waiters = waiters; count = count; keep = keep }) (if keep then None else o) s)
  left-closing id count root up waiters true o s K = K
  left-closing id count root up waiters false None s K = K
  left-closing id count root (Some (Remote kernel j)) waiters false (Some p) s K =
      let x : JobRow = record { id = id; root = root; up = Some (Remote kernel j); waiters = waiters; count = count; keep = false } in
      cond_both (is_local C.setup i p) (unlinked p root s) s (Closing x) (λ _. unlinked-closing x s p refl K) (λ _. K)
  left-closing id count root (Some (Local j)) waiters false (Some p) s K =
      let x : JobRow = record { id = id; root = root; up = Some (Local j); waiters = waiters; count = count; keep = false } in
      cond_both (is_local C.setup i p) (unlinked p root s) (send (owner C p) (Unlink p root) s) (Closing x) (λ _. unlinked-closing x s p refl K)
      (λ _. told-closing x s (owner C p) p refl K)
  left-closing id count root None waiters false (Some p) s K =
      let x : JobRow = record { id = id; root = root; up = None; waiters = waiters; count = count; keep = false } in
      cond_both (is_local C.setup i p) (unlinked p root s) (send (owner C p) (Unlink p root) s) (Closing x) (λ _. unlinked-closing x s p refl K)
      (λ _. told-closing x s (owner C p) p refl K)

  -- those who are woken wait to install nothing
  woken-less : (k : KeyName) (vs : List ℕ) (ps : List (Option Parked)) → sum_by (at_parked k) (all_woken vs ps) ≤ sum_by (at_parked k) ps
  woken-less k vs ps =
      in_turn-keeps (λ (qs : List (Option Parked)). sum_by (at_parked k) qs ≤ sum_by (at_parked k) ps) (λ v qs. put None qs v (Some (Ready 0)))
      (λ v qs less. let sum = weigh-put (at_parked k) None refl qs v (Some (Ready 0)) in omega (arith, sum, less)) vs ps (omega arith)

  woken-closing : (x : JobRow) (vs : List ℕ) (s : Side) → Closing x s → Closing x (woken vs s)
  woken-closing x vs s K = record {
    row = rows-changed C (closing_job i x.id) s s.vpes s.endpoints (all_woken vs s.parks) (λ k. woken-less k vs s.parks) K.row;
    open_ = K.open_;
    gone = λ leaves. let is = K.gone leaves in let less = woken-less x.root vs s.parks in let zero' = is.0.1 in ((is.0.0, omega (arith, less, zero')), is.1);
    kept = K.kept;
    clean = K.clean;
  }

  -- The job is removed; the row owes the token of its `up`.
  module _ (x : JobRow) (s : Side) (K : Closing x s) (done : x.count ≡ 0) where
    abbrev u : Side
    u = job_removed x.id s

    job-u : (m : ℕ) → job u m ≡ (if m == x.id then None else job s m)
    job-u m = ap (λ (z : ObservedSide). z.job m) (seen-job_removed x.id s)

    job-stays : (a m : ℕ) (y : JobRow) → ((a ≡ i) × (m ≡ x.id) → ⊥) → (view C s).job a m ≡ Some y → (view C u).job a m ≡ Some y
    job-stays a m y other open_ = elim (cases_eq a i) [
      | inl here ↦
          let at' : (view C u).job a m ≡ job u m = cond-true (a == i) (job u m) (job (side C.world a) m) (eq-eqb a i here) in
          let was : (view C s).job a m ≡ job s m = cond-true (a == i) (job s m) (job (side C.world a) m) (eq-eqb a i here) in
          at' ∙ (job-u m ∙ (cond-false (m == x.id) None (job s m) (ne_eqb m x.id (λ same. other (here, same))) ∙ (sym was ∙ open_)))
      | inr away ↦ job-away C u a m away ∙ (sym (job-away C s a m away) ∙ open_)
    ]

    job-was : (a m : ℕ) (y : JobRow) → (view C u).job a m ≡ Some y → ((view C s).job a m ≡ Some y) × ((a ≡ i) × (m ≡ x.id) → ⊥)
    job-was a m y open_ = elim (cases_eq a i) [
      | inl here ↦
          let at' : (view C u).job a m ≡ job u m = cond-true (a == i) (job u m) (job (side C.world a) m) (eq-eqb a i here) in
          let was : (view C s).job a m ≡ job s m = cond-true (a == i) (job s m) (job (side C.world a) m) (eq-eqb a i here) in
          elim (cases_Bool (m == x.id)) [
            | inl same ↦ let no' : None ≡ Some y = sym (at' ∙ (job-u m ∙ cond-true (m == x.id) None (job s m) same)) ∙ open_ in absurd cc
            | inr differ ↦ (was ∙ (sym (at' ∙ (job-u m ∙ cond-false (m == x.id) None (job s m) differ)) ∙ open_), λ (_, same). eqb-false m x.id differ same)
          ]
      | inr away ↦ (job-away C s a m away ∙ (sym (job-away C u a m away) ∙ open_), λ (here, _). away here)
    ]

    removed-asks : (k : KeyName) (a b : ℕ) → of_side (requesting k a b) i u + bit (key_eq x.root k && names i x.up a b) ≡ of_side (requesting k a b) i s
    removed-asks k a b = side-removed (requesting k a b) i s x.id x K.row.ids.rise K.open_

    still-asked : (k : KeyName) (a b : ℕ) → IsAlive C u k → 1 ≤ (view C s).asked k a b → 1 ≤ (view C u).asked k a b
    still-asked k a b alive more = elim (cases_Bool (key_eq x.root k)) [
      | inl same ↦ elim (cases_Bool x.keep) [
        | inl keeps ↦
            let sum = removed-asks k a b in
            let none : bit (key_eq x.root k && names i x.up a b) ≡ 0 = ap (λ up. bit (key_eq x.root k && names i up a b)) (K.kept keeps)
            ∙ ap (λ t. bit (t && false)) same in
            omega (arith, sum, none, more)
        | inr leaves ↦ absurd (not-gone (owner C) C.parent C.one_parent C.made (view C s) k (subst (IsGone C s) (key_eq-true x.root k same) (K.gone leaves).0)
            alive)
      ]
      | inr differ ↦
          let sum = removed-asks k a b in
          let none : bit (key_eq x.root k && names i x.up a b) ≡ 0 = ap (λ t. bit (t && names i x.up a b)) differ in
          omega (arith, sum, none, more)
    ]

    removed-count : (a b : ℕ) → of_side (counting a b) i u ≡ of_side (counting a b) i s
    removed-count a b =
        let sum = side-removed (counting a b) i s x.id x K.row.ids.rise K.open_ in
        let none : (if (i == a) && (x.id == b) then x.count else 0) ≡ 0 = cond_both ((i == a) && (x.id == b)) x.count 0 (λ n. n ≡ 0) (λ _. done) (λ _. refl) in
        omega (arith, sum, none)

    pub row-without : Row C (above i x.up) u
    row-without = record {
      fit = fit-on (owner C) C.parent C.one_parent C.made (view C s) (view C u) H K.row.fit;
      revokes = keep (owner C) C.parent C.one_parent C.made (view C s) (view C u) H (closing_job i x.id) (above i x.up) K.row.fit K.row.revokes
          (λ k a b alive under before. inr (inl (elim before [ inl more ↦ still-asked k a b alive more | inr care ↦ absurd care ])))
          (λ k a b more. let sum = removed-asks k a b in inl (omega (arith, sum, more)))
          (λ k m y (c, held, marked) open_. (
            y,
            job-stays (owner C k) m y (λ (here, same). K.clean k c (sym (hold-here C s k here) ∙ held) (marked ∙ ap Some same)) open_,
            refl,
          ))
          (λ a m y open_. let was = job-was a m y open_ in (y, was.0, refl, λ is. is, λ loose. was.1 loose))
          (λ a b. let sum = side-removed (naming a b) i s x.id x K.row.ids.rise K.open_ in let count = removed-count a b in
          let is = K.row.revokes.counted a b in omega (arith, sum, count, is))
          (λ k a b. let sum = removed-asks k a b in let most = K.row.revokes.single.0 k a b in omega (arith, sum, most), λ k a b care. absurd care)
          (λ k more. let sum = side-removed (noticing k) i s x.id x K.row.ids.rise K.open_ in inl (omega (arith, sum, more)))
          (let sum = side-removed (straying (owner C)) i s x.id x K.row.ids.rise K.open_ in let is = K.row.revokes.placed in omega (arith, sum, is));
      rises = K.row.rises;
      ids = ids.keeps_closed s K.row.ids x.id;
      homes = K.row.homes;
      sent = record { inbox = K.row.sent.inbox; sends = K.row.sent.sends };
      caused = λ m y there. let was = job-was i m y (job-here C u m ∙ there) in K.row.caused m y (sym (job-here C s m) ∙ was.0);
      lasts = K.row.lasts;
    }
      where
        H : HoldsOn (owner C) C.parent C.one_parent C.made (view C s) (view C u)
        H = holds-same (owner C) C.parent C.one_parent C.made (view C s) (view C u) (λ k. refl) (λ k. omega arith)

  -- The job above is told.

  -- a token of a job of this kernel that the row owes comes back
  pub row-back : (s : Side) (j : ℕ) → Row C (token i j) s → Row C no_obligations (count_lowered j s)
  row-back s j R =
      let is = R.revokes.counted i j in
      let one = one-true ((i == i) && (j == j)) (and_from (i == i) (j == j) (eq-eqb i i refl) (eq-eqb j j refl)) in
      let x = counted-open C s j (omega (arith, is, one)) in
      row-lowered C s j x.0 x.1 R

  told-row : (up : Option Up) (s : Side) → Row C (above i up) s → Row C no_obligations (up_told up s)
  told-row None s R = obligations-changed C (above i None) no_obligations s (λ k a b alive under care. absurd care) (λ k a b care. care)
      (λ a m loose. loose) (λ a b. refl) R
  told-row (Some (Local j)) s R = row-back s j R
  told-row (Some (Remote kernel j)) s R = row-sent C (above i (Some (Remote kernel j))) no_obligations s kernel (RevokeDone j) (λ k a b. refl) (λ k. refl) refl
      (λ a b. omega arith) (λ a b k alive care. care) (λ a b k care. care) (λ a m loose. loose) (λ k more. absurd (omega (arith, more))) R

  -- what the job marked is swept
  row-swept : (x : JobRow) (s : Side) → job s x.id ≡ Some x → x.count ≡ 0 → Row C no_obligations s → (b : Bool) → x.keep ≡ b →
      Closing x (caps_removed x.id (selectors_freed x.id (record s { caps = spared b x.root s.caps })))
  row-swept x s open_ done R true keeps =
      let freed_rows : List VpeRow = all_freed (marked_by x.id (restored s.caps x.root)) s.vpes in
      row-restored x (record s { vpes = freed_rows }) (rows-changed C no_obligations s freed_rows s.endpoints s.parks (λ k. omega arith) R) open_ done keeps
  row-swept x s open_ done R false leaves =
      let freed_rows : List VpeRow = all_freed (marked_by x.id s.caps) s.vpes in
      row-removed x (record s { vpes = freed_rows }) (rows-changed C no_obligations s freed_rows s.endpoints s.parks (λ k. omega arith) R) open_ done leaves

  -- A job is closed.
  row-closed_here : (x : JobRow) (s : Side) → job s x.id ≡ Some x → x.count ≡ 0 → Row C no_obligations s → Closing x (closed_here C.setup i x s)
  unfolding closed_here
  row-closed_here x s open_ done R =
      left-closing x.id x.count x.root x.up x.waiters x.keep (option_and_then (λ (c : Capability). c.parent) (cap s x.root)) (woken x.waiters (swept x s))
      (woken-closing x x.waiters (swept x s) (row-swept x s open_ done R x.keep refl))

  pub row-closed : (x : JobRow) (s : Side) → job s x.id ≡ Some x → x.count ≡ 0 → Row C no_obligations s → Row C no_obligations (closed C.setup i x s)
  row-closed x s open_ done R =
      subst (λ t. Row C no_obligations (up_told x.up t)) (sym (closed_here-late C.setup i x x.id s))
      (told-row x.up (job_removed x.id (closed_here C.setup i x s)) (row-without x (closed_here C.setup i x s) (row-closed_here x s open_ done R) done))

  -- The chain.
  pub done-is : (s : Side) (j : ℕ) (y : JobRow) → if_done (job s j) ≡ Some y → (job s y.id ≡ Some y) × (y.count ≡ 0)
  done-is s j y done = from (job s j) refl done
    where
      from : (o : Option JobRow) → job s j ≡ o → if_done o ≡ Some y → (job s y.id ≡ Some y) × (y.count ≡ 0)
      from None none done = absurd cc
      from (Some x) some done = elim (cases_Bool (x.count == 0)) [
        | inl zero' ↦
            let same : x ≡ y = same_Some x y (sym (cond-true (x.count == 0) (Some x) None zero') ∙ done) in
            let id : x.id ≡ j = job-id C s j x some in
            subst (λ z. (job s z.id ≡ Some z) × (z.count ≡ 0)) same (ap (job s) id ∙ some, eqb-true x.count 0 zero')
        | inr more ↦ let none : None ≡ Some y = sym (cond-false (x.count == 0) (Some x) None more) ∙ done in absurd cc
      ]

  pub next-is : (up : Option Up) (s : Side) (y : JobRow) → next_done up s.jobs ≡ Some y → (job s y.id ≡ Some y) × (y.count ≡ 0)
  next-is None s y next = absurd cc
  next-is (Some (Local j)) s y next = done-is s j y next
  next-is (Some (Remote kernel j)) s y next = absurd cc

  pub row-finish : (n : ℕ) (o : Option JobRow) (s : Side) → ((x : JobRow) → o ≡ Some x → (job s x.id ≡ Some x) × (x.count ≡ 0))
      → Row C no_obligations s →
      Row C no_obligations (finish C.setup i n o s)
  unfolding finish
  row-finish zero o s is R = R
  row-finish (suc n) None s is R = R
  row-finish (suc n) (Some x) s is R =
      let s2 : Side = closed C.setup i x s in
      row-finish n (next_done x.up s2.jobs) s2 (λ y next. next-is x.up s2 y next) (row-closed x s (is x refl).0 (is x refl).1 R)

  pub row-settled : (j : ℕ) (s : Side) → Row C no_obligations s → Row C no_obligations (settled C.setup i j s)
  row-settled j s R = row-finish (length s.jobs) (if_done (job s j)) s (λ x done. done-is s j x done) R
