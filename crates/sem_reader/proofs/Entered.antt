-- The tables after a line was entered.
use Rattle.std.proofs.Common.{◌≡◌, ℕ, ◌+◌, ◌<◌, ◌≤◌, ◌↔◌, Bool, true, false, true≢false, cond, inl, inr, ◌&&◌, ◌==◌, Option, eqb-true, ◌||◌, List, [], ◌∷◌}
use Rattle.std.proofs.Common.{◌++◌, length, get_or, set, Some, None, Result, Ok, Err, refl, ap, sym, ◌∙◌, add-zero, arith, leb-false, length-set, eq-eqb}
use Rattle.std.proofs.Common.{ne_eqb}
use Rattle.std.specs.Option.{is_some, IsSome}
use Rattle.std.specs.Result.{IsErr, OnOk}
use Rattle.sem_key.specs.declared.limits.TheConstants.{PES}
use Rattle.sem_key.specs.MembershipTable.{MembershipTable, owner_at, with_owner}
use Rattle.sem_key.specs.declared.object.Object.TheVariants.{Mem, Recv, Serv}
use Rattle.sem_msg.specs.declared.call.Call.{Call}
use Rattle.sem_msg.specs.declared.setup.Root.{Root}
use Rattle.sem_key.specs.declared.limits.TheConstants.{VPES}
use Rattle.sem_trace.specs.declared.declaration.Declaration.{Declaration}
use Rattle.sem_trace.specs.declared.declaration.Declaration.TheVariants.{Window, Kernels, Pe, Vpe, Memory, Receive, Service, Offer, Deny, Kill, Call as Calls}
use Rattle.sem_trace.specs.declared.declaration.Declaration.TheVariants.{End}
use Rattle.sem_trace.specs.Earlier.{window_in, owner_in, pe_in, is_pe_taken, roots_in, calls_in, has_service, offer_in, is_denied, kill_in, call_number}
use Rattle.sem_trace.specs.Context.{context_fault}
use Rattle.sem_trace.specs.Ranges.{IsInRange}
use Rattle.sem_reader.specs.declared.tables.Tables.{Tables}
use Rattle.std.proofs.lemmas.Bool.{cases_Bool}
use Rattle.indexmap.specs.IndexMap as map
use Rattle.indexmap.specs.IndexSet.{contains, Updates}
use Rattle.sem_reader.specs.Pairs.{is_same_pair}
use Rattle.sem_reader.specs.Tells.{Tells}
use Rattle.sem_trace.proofs.Nodes.{node_small}
use Rattle.sem_reader.proofs.OneMore.{no_fault, accepted_more, same_number, other_number, is_none, table_set, window_in-same, window_in-new, owner_in-same}
use Rattle.sem_reader.proofs.OneMore.{owner_in-new, pe_in-same, pe_in-new, is_taken-same, is_taken-new, roots_in-same, roots_in-new, calls_in-same}
use Rattle.sem_reader.proofs.OneMore.{calls_in-new, has_service-same, has_service-new, offer_in-same, offer_in-new, is_denied-same, is_denied-new, kill_in-same}
use Rattle.sem_reader.proofs.OneMore.{kill_in-new, call_number-more}

-- a call that can only fail where the PE has an owner
pub owner_set : {A E : Type 0} (r : Result A E) (old new : MembershipTable) (p kernel : ℕ) → (IsErr r ↔ IsSome (owner_at old p)) →
    OnOk r (new ≡ with_owner old p kernel) → owner_at old p ≡ None → new ≡ with_owner old p kernel
owner_set (Ok x) old new p kernel taken ok none = ok
owner_set (Err e) old new p kernel taken ok none = absurd (true≢false (sym (rw none at (taken.0 refl))))

or_left : (a b : Bool) → (a || b) ≡ false → a ≡ false
or_left true b no' = absurd (true≢false no')
or_left false b no' = refl

-- the number of kernels is said once
pub enter_kernels : (version kernels : ℕ) (ds : List Declaration) (t : Tables) (n : ℕ) → context_fault ds (Kernels n) ≡ None →
    Tells version kernels (ds ++ Kernels n ∷ []) t
enter_kernels version kernels ds t n fault = absurd (true≢false (no_fault ds (Kernels n) fault).2)

pub enter_end : (version kernels : ℕ) (ds : List Declaration) (t : Tables) → Tells version kernels ds t → context_fault ds End ≡ None →
    Tells version kernels (ds ++ End ∷ []) t
enter_end version kernels ds t told fault =
    let ranges : IsInRange version kernels End = tt in
    record {
      versions = told.versions;
      some = told.some;
      few = told.few;
      accepted = accepted_more version kernels ds End told.accepted ranges fault;
      same_version = told.same_version;
      window = told.window ∙ sym (window_in-same ds End refl);
      number = told.number;
      owner = λ q. told.owner q ∙ sym (owner_in-same ds End q refl);
      pe = λ u. told.pe u ∙ sym (pe_in-same ds End u refl);
      taken = λ q. told.taken q ∙ sym (is_taken-same ds End q refl);
      root = λ u. told.root u ∙ sym (roots_in-same ds End u refl);
      call = λ u. told.call u ∙ sym (calls_in-same ds End u refl);
      count = told.count ∙ sym (call_number-more ds End ∙ add-zero (call_number ds));
      few_calls = told.few_calls;
      named = λ m. told.named m ∙ sym (has_service-same ds End m refl);
      offer = λ m i. told.offer m i ∙ sym (offer_in-same ds End m i refl);
      denied = λ u w. told.denied u w ∙ sym (is_denied-same ds End u w refl);
      kill = λ u. told.kill u ∙ sym (kill_in-same ds End u refl);
    }

pub enter_window : (version kernels : ℕ) (ds : List Declaration) (t : Tables) (n : ℕ) → Tells version kernels ds t → IsInRange version kernels (Window n) →
    context_fault ds (Window n) ≡ None → Tells version kernels (ds ++ Window n ∷ []) (record t { window = Some n })
enter_window version kernels ds t n told ranges fault =
    let none : window_in ds ≡ None = is_none _ (no_fault ds (Window n) fault).2 in
    record {
      versions = told.versions;
      some = told.some;
      few = told.few;
      accepted = accepted_more version kernels ds (Window n) told.accepted ranges fault;
      same_version = told.same_version;
      window = sym (window_in-new ds (Window n) n none refl);
      number = told.number;
      owner = λ q. told.owner q ∙ sym (owner_in-same ds (Window n) q refl);
      pe = λ u. told.pe u ∙ sym (pe_in-same ds (Window n) u refl);
      taken = λ q. told.taken q ∙ sym (is_taken-same ds (Window n) q refl);
      root = λ u. told.root u ∙ sym (roots_in-same ds (Window n) u refl);
      call = λ u. told.call u ∙ sym (calls_in-same ds (Window n) u refl);
      count = told.count ∙ sym (call_number-more ds (Window n) ∙ add-zero (call_number ds));
      few_calls = told.few_calls;
      named = λ m. told.named m ∙ sym (has_service-same ds (Window n) m refl);
      offer = λ m i. told.offer m i ∙ sym (offer_in-same ds (Window n) m i refl);
      denied = λ u w. told.denied u w ∙ sym (is_denied-same ds (Window n) u w refl);
      kill = λ u. told.kill u ∙ sym (kill_in-same ds (Window n) u refl);
    }

pub enter_pe : (version kernels : ℕ) (ds : List Declaration) (t : Tables) (p k : ℕ) (owners : MembershipTable) → Tells version kernels ds t →
    IsInRange version kernels (Pe p k) → context_fault ds (Pe p k) ≡ None → length owners.owners ≡ PES → owners ≡ with_owner t.owners p k →
    Tells version kernels (ds ++ (Pe p k) ∷ []) (record t { owners = owners })
enter_pe version kernels ds t p k owners told ranges fault size is =
    let node : p < VPES = node_small version p ranges.0 in
    let same : length owners.owners ≡ length t.owners.owners = ap (λ (m : MembershipTable). length m.owners) is ∙ length-set t.owners.owners p (Some k) in
    let within : p < length t.owners.owners = omega arith in
    let none : owner_in ds p ≡ None = is_none _ (no_fault ds (Pe p k) fault).2 in
    record {
      versions = told.versions;
      some = told.some;
      few = told.few;
      accepted = accepted_more version kernels ds (Pe p k) told.accepted ranges fault;
      same_version = told.same_version;
      window = told.window ∙ sym (window_in-same ds (Pe p k) refl);
      number = rw is told.number;
      owner = rw is (table_set t.owners.owners p (Some k) None (owner_in ds) (owner_in (ds ++ (Pe p k) ∷ [])) within told.owner
          (owner_in-new ds (Pe p k) p k none (same_number p _ _)) (λ u other. owner_in-same ds (Pe p k) u (other_number p u _ _ other)));
      pe = λ u. told.pe u ∙ sym (pe_in-same ds (Pe p k) u refl);
      taken = λ q. told.taken q ∙ sym (is_taken-same ds (Pe p k) q refl);
      root = λ u. told.root u ∙ sym (roots_in-same ds (Pe p k) u refl);
      call = λ u. told.call u ∙ sym (calls_in-same ds (Pe p k) u refl);
      count = told.count ∙ sym (call_number-more ds (Pe p k) ∙ add-zero (call_number ds));
      few_calls = told.few_calls;
      named = λ m. told.named m ∙ sym (has_service-same ds (Pe p k) m refl);
      offer = λ m i. told.offer m i ∙ sym (offer_in-same ds (Pe p k) m i refl);
      denied = λ u w. told.denied u w ∙ sym (is_denied-same ds (Pe p k) u w refl);
      kill = λ u. told.kill u ∙ sym (kill_in-same ds (Pe p k) u refl);
    }

pub enter_vpe : (version kernels : ℕ) (ds : List Declaration) (t : Tables) (v p : ℕ) → Tells version kernels ds t → IsInRange version kernels (Vpe v p) →
    context_fault ds (Vpe v p) ≡ None → length t.pes ≡ VPES → length t.taken ≡ VPES →
    Tells version kernels (ds ++ (Vpe v p) ∷ []) (record t { pes = set t.pes v (Some p); taken = set t.taken p true })
enter_vpe version kernels ds t v p told ranges fault size in_size =
    let node : v < VPES = node_small version v ranges.0 in
    let on : p < VPES = node_small version p ranges.1 in
    let within : v < length t.pes = omega arith in
    let in_taken : p < length t.taken = omega arith in
    let twice : (is_some (pe_in ds v) || is_pe_taken ds p) ≡ false = (no_fault ds (Vpe v p) fault).2 in
    let none : pe_in ds v ≡ None = is_none _ (or_left _ _ twice) in
    record {
      versions = told.versions;
      some = told.some;
      few = told.few;
      accepted = accepted_more version kernels ds (Vpe v p) told.accepted ranges fault;
      same_version = told.same_version;
      window = told.window ∙ sym (window_in-same ds (Vpe v p) refl);
      number = told.number;
      owner = λ q. told.owner q ∙ sym (owner_in-same ds (Vpe v p) q refl);
      pe = table_set t.pes v (Some p) None (pe_in ds) (pe_in (ds ++ (Vpe v p) ∷ [])) within told.pe (pe_in-new ds (Vpe v p) v p none (same_number v _ _))
          (λ u other. pe_in-same ds (Vpe v p) u (other_number v u _ _ other));
      taken = table_set t.taken p true false (is_pe_taken ds) (is_pe_taken (ds ++ (Vpe v p) ∷ [])) in_taken told.taken (is_taken-new ds (Vpe v p) p (eq-eqb p p refl))
          (λ u other. is_taken-same ds (Vpe v p) u (ne_eqb p u (λ e. other (sym e))));
      root = λ u. told.root u ∙ sym (roots_in-same ds (Vpe v p) u refl);
      call = λ u. told.call u ∙ sym (calls_in-same ds (Vpe v p) u refl);
      count = told.count ∙ sym (call_number-more ds (Vpe v p) ∙ add-zero (call_number ds));
      few_calls = told.few_calls;
      named = λ m. told.named m ∙ sym (has_service-same ds (Vpe v p) m refl);
      offer = λ m i. told.offer m i ∙ sym (offer_in-same ds (Vpe v p) m i refl);
      denied = λ u w. told.denied u w ∙ sym (is_denied-same ds (Vpe v p) u w refl);
      kill = λ u. told.kill u ∙ sym (kill_in-same ds (Vpe v p) u refl);
    }

pub enter_memory : (version kernels : ℕ) (ds : List Declaration) (t : Tables) (v s base len rights : ℕ) (after : Tables) → Tells version kernels ds t →
    IsInRange version kernels (Memory v s base len rights) → context_fault ds (Memory v s base len rights) ≡ None → length t.roots.items ≡ VPES →
    after.roots.items ≡ set t.roots.items v (get_or t.roots.items v [] ++ (record { sel = s; object = Mem base len rights }) ∷ []) →
    Tells version kernels (ds ++ (Memory v s base len rights) ∷ []) (record t { roots = after.roots })
enter_memory version kernels ds t v s base len rights after told ranges fault size is =
    let node : v < VPES = node_small version v ranges.0 in
    let within : v < length t.roots.items = omega arith in
    record {
      versions = told.versions;
      some = told.some;
      few = told.few;
      accepted = accepted_more version kernels ds (Memory v s base len rights) told.accepted ranges fault;
      same_version = told.same_version;
      window = told.window ∙ sym (window_in-same ds (Memory v s base len rights) refl);
      number = told.number;
      owner = λ q. told.owner q ∙ sym (owner_in-same ds (Memory v s base len rights) q refl);
      pe = λ u. told.pe u ∙ sym (pe_in-same ds (Memory v s base len rights) u refl);
      taken = λ q. told.taken q ∙ sym (is_taken-same ds (Memory v s base len rights) q refl);
      root = rw is (table_set t.roots.items v (get_or t.roots.items v [] ++ (record { sel = s; object = Mem base len rights }) ∷ []) [] (roots_in ds)
          (roots_in (ds ++ (Memory v s base len rights) ∷ [])) within told.root
          (roots_in-new ds (Memory v s base len rights) v (record { sel = s; object = Mem base len rights }) (same_number v _ _)
          ∙ ap (λ (rs : List Root). rs ++ (record { sel = s; object = Mem base len rights }) ∷ []) (sym (told.root v)))
          (λ u other. roots_in-same ds (Memory v s base len rights) u (other_number v u _ _ other)));
      call = λ u. told.call u ∙ sym (calls_in-same ds (Memory v s base len rights) u refl);
      count = told.count ∙ sym (call_number-more ds (Memory v s base len rights) ∙ add-zero (call_number ds));
      few_calls = told.few_calls;
      named = λ m. told.named m ∙ sym (has_service-same ds (Memory v s base len rights) m refl);
      offer = λ m i. told.offer m i ∙ sym (offer_in-same ds (Memory v s base len rights) m i refl);
      denied = λ u w. told.denied u w ∙ sym (is_denied-same ds (Memory v s base len rights) u w refl);
      kill = λ u. told.kill u ∙ sym (kill_in-same ds (Memory v s base len rights) u refl);
    }

pub enter_receive : (version kernels : ℕ) (ds : List Declaration) (t : Tables) (v s slots : ℕ) (after : Tables) → Tells version kernels ds t →
    IsInRange version kernels (Receive v s slots) → context_fault ds (Receive v s slots) ≡ None → length t.roots.items ≡ VPES →
    after.roots.items ≡ set t.roots.items v (get_or t.roots.items v [] ++ (record { sel = s; object = Recv slots }) ∷ []) →
    Tells version kernels (ds ++ (Receive v s slots) ∷ []) (record t { roots = after.roots })
enter_receive version kernels ds t v s slots after told ranges fault size is =
    let node : v < VPES = node_small version v ranges.0 in
    let within : v < length t.roots.items = omega arith in
    record {
      versions = told.versions;
      some = told.some;
      few = told.few;
      accepted = accepted_more version kernels ds (Receive v s slots) told.accepted ranges fault;
      same_version = told.same_version;
      window = told.window ∙ sym (window_in-same ds (Receive v s slots) refl);
      number = told.number;
      owner = λ q. told.owner q ∙ sym (owner_in-same ds (Receive v s slots) q refl);
      pe = λ u. told.pe u ∙ sym (pe_in-same ds (Receive v s slots) u refl);
      taken = λ q. told.taken q ∙ sym (is_taken-same ds (Receive v s slots) q refl);
      root = rw is (table_set t.roots.items v (get_or t.roots.items v [] ++ (record { sel = s; object = Recv slots }) ∷ []) [] (roots_in ds)
          (roots_in (ds ++ (Receive v s slots) ∷ [])) within told.root (roots_in-new ds (Receive v s slots) v (record { sel = s; object = Recv slots })
          (same_number v _ _) ∙ ap (λ (rs : List Root). rs ++ (record { sel = s; object = Recv slots }) ∷ []) (sym (told.root v)))
          (λ u other. roots_in-same ds (Receive v s slots) u (other_number v u _ _ other)));
      call = λ u. told.call u ∙ sym (calls_in-same ds (Receive v s slots) u refl);
      count = told.count ∙ sym (call_number-more ds (Receive v s slots) ∙ add-zero (call_number ds));
      few_calls = told.few_calls;
      named = λ m. told.named m ∙ sym (has_service-same ds (Receive v s slots) m refl);
      offer = λ m i. told.offer m i ∙ sym (offer_in-same ds (Receive v s slots) m i refl);
      denied = λ u w. told.denied u w ∙ sym (is_denied-same ds (Receive v s slots) u w refl);
      kill = λ u. told.kill u ∙ sym (kill_in-same ds (Receive v s slots) u refl);
    }

pub enter_service : (version kernels : ℕ) (ds : List Declaration) (t : Tables) (v s name : ℕ) (after : Tables) → Tells version kernels ds t →
    IsInRange version kernels (Service v s name) → context_fault ds (Service v s name) ≡ None → length t.roots.items ≡ VPES → length t.named ≡ 256 →
    after.roots.items ≡ set t.roots.items v (get_or t.roots.items v [] ++ (record { sel = s; object = Serv name }) ∷ []) →
    Tells version kernels (ds ++ (Service v s name) ∷ []) (record t { roots = after.roots; named = set t.named name true })
enter_service version kernels ds t v s name after told ranges fault size named_size is =
    let node : v < VPES = node_small version v ranges.0 in
    let within : v < length t.roots.items = omega arith in
    let small : name ≤ 255 = ranges.2 in
    let in_named : name < length t.named = omega arith in
    record {
      versions = told.versions;
      some = told.some;
      few = told.few;
      accepted = accepted_more version kernels ds (Service v s name) told.accepted ranges fault;
      same_version = told.same_version;
      window = told.window ∙ sym (window_in-same ds (Service v s name) refl);
      number = told.number;
      owner = λ q. told.owner q ∙ sym (owner_in-same ds (Service v s name) q refl);
      pe = λ u. told.pe u ∙ sym (pe_in-same ds (Service v s name) u refl);
      taken = λ q. told.taken q ∙ sym (is_taken-same ds (Service v s name) q refl);
      root = rw is (table_set t.roots.items v (get_or t.roots.items v [] ++ (record { sel = s; object = Serv name }) ∷ []) [] (roots_in ds)
          (roots_in (ds ++ (Service v s name) ∷ [])) within told.root (roots_in-new ds (Service v s name) v (record { sel = s; object = Serv name })
          (same_number v _ _) ∙ ap (λ (rs : List Root). rs ++ (record { sel = s; object = Serv name }) ∷ []) (sym (told.root v)))
          (λ u other. roots_in-same ds (Service v s name) u (other_number v u _ _ other)));
      call = λ u. told.call u ∙ sym (calls_in-same ds (Service v s name) u refl);
      count = told.count ∙ sym (call_number-more ds (Service v s name) ∙ add-zero (call_number ds));
      few_calls = told.few_calls;
      named = table_set t.named name true false (has_service ds) (has_service (ds ++ (Service v s name) ∷ [])) in_named told.named
          (has_service-new ds (Service v s name) name (eq-eqb name name refl))
          (λ u other. has_service-same ds (Service v s name) u (ne_eqb name u (λ e. other (sym e))));
      offer = λ m i. told.offer m i ∙ sym (offer_in-same ds (Service v s name) m i refl);
      denied = λ u w. told.denied u w ∙ sym (is_denied-same ds (Service v s name) u w refl);
      kill = λ u. told.kill u ∙ sym (kill_in-same ds (Service v s name) u refl);
    }

both_true : (a b : Bool) → (a && b) ≡ true → (a ≡ true) × (b ≡ true)
both_true true b some = (refl, some)
both_true false b some = absurd (true≢false (sym some))

-- an offer is this one, or was there
one_offered : (was : Option ℕ) (ds : List Declaration) (name index s m i : ℕ) → offer_in ds name index ≡ None → was ≡ offer_in ds m i →
    cond (is_same_pair (name, index) (m, i)) (Some s) was ≡ offer_in (ds ++ Offer name index s ∷ []) m i
one_offered was ds name index s m i none told =
    elim (cases_Bool (is_same_pair (name, index) (m, i))) [
      | inl same ↦
          let both = both_true (name == m) (index == i) same in
          let still : offer_in ds m i ≡ None = rw (← eqb-true name m both.0, ← eqb-true index i both.1) none in
          rw same (sym (offer_in-new ds (Offer name index s) m i s still (rw same refl)))
      | inr other ↦ rw other (told ∙ sym (offer_in-same ds (Offer name index s) m i (rw other refl)))
    ]

pub enter_offer : (version kernels : ℕ) (ds : List Declaration) (t : Tables) (name index s : ℕ) (after : Tables) → Tells version kernels ds t →
    IsInRange version kernels (Offer name index s) → context_fault ds (Offer name index s) ≡ None →
    map.Updates is_same_pair t.offers after.offers (name, index) (Some s) →
    Tells version kernels (ds ++ (Offer name index s) ∷ []) (record t { offers = after.offers })
enter_offer version kernels ds t name index s after told ranges fault is =
    let none : offer_in ds name index ≡ None = is_none _ (no_fault ds (Offer name index s) fault).2 in
    record {
      versions = told.versions;
      some = told.some;
      few = told.few;
      accepted = accepted_more version kernels ds (Offer name index s) told.accepted ranges fault;
      same_version = told.same_version;
      window = told.window ∙ sym (window_in-same ds (Offer name index s) refl);
      number = told.number;
      owner = λ q. told.owner q ∙ sym (owner_in-same ds (Offer name index s) q refl);
      pe = λ u. told.pe u ∙ sym (pe_in-same ds (Offer name index s) u refl);
      taken = λ q. told.taken q ∙ sym (is_taken-same ds (Offer name index s) q refl);
      root = λ u. told.root u ∙ sym (roots_in-same ds (Offer name index s) u refl);
      call = λ u. told.call u ∙ sym (calls_in-same ds (Offer name index s) u refl);
      count = told.count ∙ sym (call_number-more ds (Offer name index s) ∙ add-zero (call_number ds));
      few_calls = told.few_calls;
      named = λ m. told.named m ∙ sym (has_service-same ds (Offer name index s) m refl);
      offer = λ m i. is.0 (m, i) ∙ one_offered (map.get is_same_pair t.offers (m, i)) ds name index s m i none (told.offer m i);
      denied = λ u w. told.denied u w ∙ sym (is_denied-same ds (Offer name index s) u w refl);
      kill = λ u. told.kill u ∙ sym (kill_in-same ds (Offer name index s) u refl);
    }

-- a pair is denied where it is this one, or was
one_denied : (was : Bool) (ds : List Declaration) (v asker u w : ℕ) → was ≡ is_denied ds u w →
    cond (is_same_pair (v, asker) (u, w)) true was ≡ is_denied (ds ++ Deny v asker ∷ []) u w
one_denied was ds v asker u w told =
    elim (cases_Bool (is_same_pair (v, asker) (u, w))) [
      | inl same ↦ rw same (sym (is_denied-new ds (Deny v asker) u w same))
      | inr other ↦ rw other (told ∙ sym (is_denied-same ds (Deny v asker) u w other))
    ]

pub enter_deny : (version kernels : ℕ) (ds : List Declaration) (t : Tables) (v asker : ℕ) (after : Tables) → Tells version kernels ds t →
    IsInRange version kernels (Deny v asker) → context_fault ds (Deny v asker) ≡ None → Updates is_same_pair t.denied after.denied (v, asker) true →
    Tells version kernels (ds ++ (Deny v asker) ∷ []) (record t { denied = after.denied })
enter_deny version kernels ds t v asker after told ranges fault is =
    record {
      versions = told.versions;
      some = told.some;
      few = told.few;
      accepted = accepted_more version kernels ds (Deny v asker) told.accepted ranges fault;
      same_version = told.same_version;
      window = told.window ∙ sym (window_in-same ds (Deny v asker) refl);
      number = told.number;
      owner = λ q. told.owner q ∙ sym (owner_in-same ds (Deny v asker) q refl);
      pe = λ u. told.pe u ∙ sym (pe_in-same ds (Deny v asker) u refl);
      taken = λ q. told.taken q ∙ sym (is_taken-same ds (Deny v asker) q refl);
      root = λ u. told.root u ∙ sym (roots_in-same ds (Deny v asker) u refl);
      call = λ u. told.call u ∙ sym (calls_in-same ds (Deny v asker) u refl);
      count = told.count ∙ sym (call_number-more ds (Deny v asker) ∙ add-zero (call_number ds));
      few_calls = told.few_calls;
      named = λ m. told.named m ∙ sym (has_service-same ds (Deny v asker) m refl);
      offer = λ m i. told.offer m i ∙ sym (offer_in-same ds (Deny v asker) m i refl);
      denied = λ u w. is.0 (u, w) ∙ one_denied (contains is_same_pair t.denied (u, w)) ds v asker u w (told.denied u w);
      kill = λ u. told.kill u ∙ sym (kill_in-same ds (Deny v asker) u refl);
    }

pub enter_kill : (version kernels : ℕ) (ds : List Declaration) (t : Tables) (v replies : ℕ) → Tells version kernels ds t →
    IsInRange version kernels (Kill v replies) → context_fault ds (Kill v replies) ≡ None → length t.kills ≡ VPES →
    Tells version kernels (ds ++ (Kill v replies) ∷ []) (record t { kills = set t.kills v (Some replies) })
enter_kill version kernels ds t v replies told ranges fault size =
    let node : v < VPES = node_small version v ranges.0 in
    let within : v < length t.kills = omega arith in
    let none : kill_in ds v ≡ None = is_none _ (no_fault ds (Kill v replies) fault).2 in
    record {
      versions = told.versions;
      some = told.some;
      few = told.few;
      accepted = accepted_more version kernels ds (Kill v replies) told.accepted ranges fault;
      same_version = told.same_version;
      window = told.window ∙ sym (window_in-same ds (Kill v replies) refl);
      number = told.number;
      owner = λ q. told.owner q ∙ sym (owner_in-same ds (Kill v replies) q refl);
      pe = λ u. told.pe u ∙ sym (pe_in-same ds (Kill v replies) u refl);
      taken = λ q. told.taken q ∙ sym (is_taken-same ds (Kill v replies) q refl);
      root = λ u. told.root u ∙ sym (roots_in-same ds (Kill v replies) u refl);
      call = λ u. told.call u ∙ sym (calls_in-same ds (Kill v replies) u refl);
      count = told.count ∙ sym (call_number-more ds (Kill v replies) ∙ add-zero (call_number ds));
      few_calls = told.few_calls;
      named = λ m. told.named m ∙ sym (has_service-same ds (Kill v replies) m refl);
      offer = λ m i. told.offer m i ∙ sym (offer_in-same ds (Kill v replies) m i refl);
      denied = λ u w. told.denied u w ∙ sym (is_denied-same ds (Kill v replies) u w refl);
      kill = table_set t.kills v (Some replies) None (kill_in ds) (kill_in (ds ++ (Kill v replies) ∷ [])) within told.kill
          (kill_in-new ds (Kill v replies) v replies none (same_number v _ _)) (λ u other. kill_in-same ds (Kill v replies) u (other_number v u _ _ other));
    }

pub enter_call : (version kernels : ℕ) (ds : List Declaration) (t : Tables) (v : ℕ) (call : Call) (after : Tables) → Tells version kernels ds t →
    IsInRange version kernels (Calls v call) → context_fault ds (Calls v call) ≡ None → length t.calls.items ≡ VPES →
    after.calls.items ≡ set t.calls.items v (get_or t.calls.items v [] ++ call ∷ []) →
    Tells version kernels (ds ++ (Calls v call) ∷ []) (record t { calls = after.calls; call_number = t.call_number + 1 })
enter_call version kernels ds t v call after told ranges fault size is =
    let node : v < VPES = node_small version v ranges.0 in
    let within : v < length t.calls.items = omega arith in
    let few : call_number ds < 20000 = leb-false _ _ (no_fault ds (Calls v call) fault).3 in
    record {
      versions = told.versions;
      some = told.some;
      few = told.few;
      accepted = accepted_more version kernels ds (Calls v call) told.accepted ranges fault;
      same_version = told.same_version;
      window = told.window ∙ sym (window_in-same ds (Calls v call) refl);
      number = told.number;
      owner = λ q. told.owner q ∙ sym (owner_in-same ds (Calls v call) q refl);
      pe = λ u. told.pe u ∙ sym (pe_in-same ds (Calls v call) u refl);
      taken = λ q. told.taken q ∙ sym (is_taken-same ds (Calls v call) q refl);
      root = λ u. told.root u ∙ sym (roots_in-same ds (Calls v call) u refl);
      call = rw is (table_set t.calls.items v (get_or t.calls.items v [] ++ call ∷ []) [] (calls_in ds) (calls_in (ds ++ (Calls v call) ∷ [])) within told.call
          (calls_in-new ds (Calls v call) v call (same_number v _ _)
          ∙ ap (λ (cs : List Call). cs ++ call ∷ []) (sym (told.call v))) (λ u other. calls_in-same ds (Calls v call) u (other_number v u _ _ other)));
      count = rw (call_number-more ds (Calls v call), told.count) refl;
      few_calls = let count : t.call_number ≡ call_number ds = told.count in omega arith;
      named = λ m. told.named m ∙ sym (has_service-same ds (Calls v call) m refl);
      offer = λ m i. told.offer m i ∙ sym (offer_in-same ds (Calls v call) m i refl);
      denied = λ u w. told.denied u w ∙ sym (is_denied-same ds (Calls v call) u w refl);
      kill = λ u. told.kill u ∙ sym (kill_in-same ds (Calls v call) u refl);
    }
