-- How the histories grow by an event, as their functions see them.
use Rattle.std.proofs.Common.{◌≡◌, ℕ, ◌<◌, ◌≤◌, true, arith, List, [], ◌∷◌, ◌++◌, length, get_or, set, Option, Result, Ok, Err, refl, sym, ◌∙◌, ap, subst}
use Rattle.std.specs.List.{Contains}
use Rattle.std.specs.Result.{IfOk, OnErr}
use Rattle.std.proofs.lemmas.List.{set-get_or}
use Rattle.sem_msg.specs.declared.message.Message.{Message}
use Rattle.sem_msg.specs.declared.event.Event.{Event}
use Rattle.sem_msg.specs.declared.entry.Entry.{Entry}
use Rattle.sem_msg.specs.Setup.{Setup}
use Rattle.sem_msg.specs.Fabric.{FabricValue}
use Rattle.sem_machine.specs.Machine.{is_enabled, entry_of}
use Rattle.sem_machine.specs.Schedules.{IsSchedule, world_after}
use Rattle.sem_kernel.specs.Worlds.{taken, NamesPeer}
use Rattle.sem_numbering.specs.Nodes.{Node, IsFoundPart, HasNoNode, IsMadeBy}
use Rattle.sem_histories.specs.Outcomes.{HasSameParts, and_then}
use Rattle.sem_histories.specs.Search.{HasMoreThan}
use Rattle.sem_outcomes.specs.declared.steps.Step.{Step}
use Rattle.sem_outcomes.specs.Met.{journal_at, AreNumbersIn, HistoriesValue, AreMet, HasLinks, IsUnderWay, HasMet}
use Rattle.sem_outcomes.proofs.PartsOf.{p-node, numbers-found, numbers-put, trees-more, trees-grow}
use Rattle.sem_outcomes.proofs.Taking.{enabled-here, enabled-names, made-by}
use Rattle.sem_outcomes.proofs.Searching.{at-schedule, met-trees, put-there, put-new, put-many}

-- The numbers of a history are put; v is what is kept of the histories h.
module _ (T : Setup) (limit at : ℕ) (h v : HistoriesValue) (is : v ≡ h) (way : IsUnderWay T limit at h) (here : at < length h.numbers) (ev : Event)
    (enabled : is_enabled T (world_after T (journal_at T h.steps at)) ev ≡ true) (ns : List ℕ)
    (of_K : AreNumbersIn T h.trees ns (and_then T (journal_at T h.steps at) ev)) where
  pub when-there : (numbers : List (List ℕ)) → Contains v.numbers ns → numbers ≡ v.numbers
      → HasMet T limit at (ev ∷ []) h (record { steps = v.steps; numbers = numbers; trees = v.trees })
  when-there numbers among same =
      subst (HasMet T limit at (ev ∷ []) h) (sym is ∙ (λ k. record { steps = v.steps; numbers = sym same k; trees = v.trees }))
      (put-there T limit at h way here ev enabled ns of_K (subst (λ (g : HistoriesValue). Contains g.numbers ns) is among))

  fresh : (Contains v.numbers ns → ⊥) → Contains h.numbers ns → ⊥
  fresh new among = new (subst (λ (g : HistoriesValue). Contains g.numbers ns) (sym is) among)

  longer : (numbers : List (List ℕ)) → numbers ≡ v.numbers ++ ns ∷ [] → numbers ≡ h.numbers ++ ns ∷ []
  longer numbers more = more ∙ ap (λ (g : HistoriesValue). g.numbers ++ ns ∷ []) is

  pub when-many : (numbers : List (List ℕ)) → (Contains v.numbers ns → ⊥) → numbers ≡ v.numbers ++ ns ∷ [] → limit < length numbers →
      HasMoreThan (HasSameParts T) T limit
  when-many numbers new more past =
      put-many T limit at h way here ev enabled ns of_K (fresh new) limit (subst (λ (ms : List (List ℕ)). limit < length ms) (longer numbers more) past)

  pub when-new : (numbers : List (List ℕ)) (steps : List Step) → (Contains v.numbers ns → ⊥) → numbers ≡ v.numbers ++ ns ∷ [] → length numbers ≤ limit
      → steps ≡ v.steps ++ record { from = at; event = ev } ∷ [] → HasMet T limit at (ev ∷ []) h (record { steps = steps; numbers = numbers; trees = v.trees })
  when-new numbers steps new more few longer-steps =
      let s : Step = record { from = at; event = ev } in
      let by : steps ≡ h.steps ++ s ∷ [] = longer-steps ∙ ap (λ (g : HistoriesValue). g.steps ++ s ∷ []) is in
      subst (HasMet T limit at (ev ∷ []) h)
      (λ k. record { steps = sym by k; numbers = sym (longer numbers more) k; trees = ap (λ (g : HistoriesValue). g.trees) (sym is) k })
      (put-new T limit at h way here ev enabled ns of_K (fresh new) s refl refl (subst (λ (ms : List (List ℕ)). length ms ≤ limit) (longer numbers more) few))

-- The part of the kernel of the event; v is what is kept of the histories h.
module _ (T : Setup) (h v : HistoriesValue) (is : v ≡ h) (met : AreMet T h) (at : ℕ) (here : at < length h.numbers) (ev : Event)
    (enabled : is_enabled T (world_after T (journal_at T h.steps at)) ev ≡ true) where
  abbrev J : List Entry
  J = journal_at T h.steps at

  abbrev made : Entry
  made = entry_of T (world_after T J) ev

  runs : IsSchedule T (journal_at T h.steps at)
  runs = at-schedule T h met at here ev enabled

  pub own : ev.kernel < T.kernels
  own = enabled-here T (world_after T J) ev enabled

  pub own-tree : ev.kernel < length v.trees
  own-tree =
      let kernel = own in
      let many : length v.trees ≡ T.kernels = ap (λ (g : HistoriesValue). length g.trees) is ∙ met.trees.many in
      omega (arith, kernel, many)

  pub own-number : ev.kernel < length (get_or h.numbers at [])
  own-number =
      let kernel = own in
      let many = (met.numbers at here).count in
      omega (arith, kernel, many)

  module _ (f : FabricValue) (has : HasLinks T f (journal_at T h.steps at)) where
    pub fabric-own : ev.kernel < f.kernels
    fabric-own = subst (λ n. ev.kernel < n) (sym has.kernels) own

    pub fabric-peer : NamesPeer f.kernels ev.kernel ev.act
    fabric-peer = subst (λ n. NamesPeer n ev.kernel ev.act) (sym has.kernels) (enabled-names T (world_after T J) ev enabled)

    module _ (from : ℕ) (is_from : from ≡ get_or (get_or h.numbers at []) ev.kernel 0) (input : Option Message) (taken_in : input ≡ taken f ev.kernel ev.act)
        (nodes : List Node) (read : nodes ≡ get_or v.trees ev.kernel []) where
      by : IsMadeBy ev input (entry_of T (world_after T (journal_at T h.steps at)) ev)
      by = made-by T J ev f enabled has input taken_in

      abbrev ns : List ℕ
      ns = get_or h.numbers at []

      of_J : AreNumbersIn T h.trees (get_or h.numbers at []) (journal_at T h.steps at)
      of_J = met.numbers at here

      read' : nodes ≡ get_or h.trees ev.kernel []
      read' = read ∙ ap (λ (g : HistoriesValue). get_or g.trees ev.kernel []) is

      pub from-within : from ≤ length nodes
      from-within =
          let low = p-node T J runs ev enabled own h.trees met.trees ns of_J input by in
          subst (λ (ms : List Node). from ≤ length ms) (sym read') (subst (λ n. n ≤ length (get_or h.trees ev.kernel [])) (sym is_from) low)

      pub part-found : (n : ℕ) → IsFoundPart nodes from ev input n → AreNumbersIn T h.trees (set (get_or h.numbers at []) ev.kernel n)
          (and_then T (journal_at T h.steps at) ev)
      part-found n found =
          numbers-found T J runs ev enabled own h.trees met.trees ns of_J input by n
          (subst (λ (ms : List Node). IsFoundPart ms (get_or ns ev.kernel 0) ev input n) read'
          (subst (λ m. IsFoundPart nodes m ev input n) is_from found))

      module _ (missing : HasNoNode nodes from ev input) where
        missing' : HasNoNode (get_or h.trees ev.kernel []) (get_or (get_or h.numbers at []) ev.kernel 0) ev input
        missing' = subst (λ (ms : List Node). HasNoNode ms (get_or ns ev.kernel 0) ev input) read' (subst (λ m. HasNoNode nodes m ev input) is_from missing)

        abbrev more : List (List Node)
        more = set h.trees ev.kernel (get_or h.trees ev.kernel [] ++ (get_or ns ev.kernel 0, made) ∷ [])

        grown : (entry : Entry) (nodes' : List Node) (trees : List (List Node)) → entry ≡ made → nodes' ≡ nodes ++ (from, entry) ∷ []
            → trees ≡ set v.trees ev.kernel nodes' → trees ≡ more
        grown entry nodes' trees is_made put placed =
            placed
            ∙ ((λ k. set (is k).trees ev.kernel (put k))
            ∙ (λ k. set h.trees ev.kernel (read' k ++ (is_from k, is_made k) ∷ [])))

        -- it is put
        pub put-met : (entry : Entry) (nodes' : List Node) (trees : List (List Node)) → entry ≡ made → nodes' ≡ nodes ++ (from, entry) ∷ []
            → trees ≡ set v.trees ev.kernel nodes'
            → AreMet T (record { steps = v.steps; numbers = v.numbers; trees = trees })
        put-met entry nodes' trees is_made put placed =
            subst (AreMet T) (λ k. record {
              steps = (sym is k).steps;
              numbers = (sym is k).numbers;
              trees = sym (grown entry nodes' trees is_made put placed) k;
            })
            (met-trees T h met more (trees-more T J runs ev enabled own h.trees met.trees ns of_J input by missing')
            (trees-grow T J runs ev enabled own h.trees met.trees ns of_J input by missing'))

        pub put-numbers : (n : ℕ) (entry : Entry) (nodes' : List Node) (trees : List (List Node)) → entry ≡ made → nodes' ≡ nodes ++ (from, entry) ∷ []
            → trees ≡ set v.trees ev.kernel nodes'
            → n ≡ length nodes' → AreNumbersIn T trees (set (get_or h.numbers at []) ev.kernel n) (and_then T (journal_at T h.steps at) ev)
        put-numbers n entry nodes' trees is_made put placed last =
            subst (λ (ts : List (List Node)). AreNumbersIn T ts (set ns ev.kernel n) (and_then T J ev)) (sym (grown entry nodes' trees is_made put placed))
            (numbers-put T J runs ev enabled own h.trees met.trees ns of_J input by missing' n
            (last ∙ ((λ k. length (put k)) ∙ (λ k. length (read' k ++ (is_from k, is_made k) ∷ [])))))

        -- it is put, if there is memory
        pub pushed-met : {E : Type 0} (r : Result ℕ E) (entry : Entry) (nodes' : List Node) (trees : List (List Node)) → entry ≡ made
            → IfOk r (λ n. nodes' ≡ nodes ++ (from, entry) ∷ []) → OnErr r (nodes' ≡ nodes) → trees ≡ set v.trees ev.kernel nodes'
            → AreMet T (record { steps = v.steps; numbers = v.numbers; trees = trees })
        pushed-met (Ok n) entry nodes' trees is_made put none placed = put-met entry nodes' trees is_made put placed
        pushed-met (Err e) entry nodes' trees is_made put none placed =
            subst (AreMet T) (sym is ∙ (λ k. record {
              steps = v.steps;
              numbers = v.numbers;
              trees = (sym (set-get_or v.trees ev.kernel []) ∙ sym (placed ∙ ap (set v.trees ev.kernel) (none ∙ read))) k;
            })) met

        pub pushed-numbers : {E : Type 0} (r : Result ℕ E) (entry : Entry) (nodes' : List Node) (trees : List (List Node)) → entry ≡ made
            → IfOk r (λ n. nodes' ≡ nodes ++ (from, entry) ∷ []) → IfOk r (λ n. n ≡ length nodes') → trees ≡ set v.trees ev.kernel nodes'
            → IfOk r (λ n. AreNumbersIn T trees (set (get_or h.numbers at []) ev.kernel n) (and_then T (journal_at T h.steps at) ev))
        pushed-numbers (Ok n) entry nodes' trees is_made put last placed = put-numbers n entry nodes' trees is_made put placed last
        pushed-numbers (Err e) entry nodes' trees is_made put last placed = tt
