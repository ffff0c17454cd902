-- The parts of a history that goes on, and the numbers that tell them.
use Rattle.std.proofs.Common.{◌≡◌, ◌≢◌, ℕ, ◌<◌, ◌≤◌, true, arith, List, [], ◌∷◌, ◌++◌, length, map, get_or, set, Option, refl, sym, ◌∙◌, ap, subst, inl, inr}
use Rattle.std.proofs.Common.{append-nil, length-append}
use Rattle.std.specs.List.{All}
use Rattle.std.proofs.lemmas.Bool.{cases_eq}
use Rattle.std.proofs.lemmas.Option.{slice_get_within, get_or_from_slice_get}
use Rattle.std.proofs.lemmas.List.{length_push, length-set, get_or-map, get_or_at, get_or_append_left, get_or-set_same, get_or-set_other}
use Rattle.std.proofs.lemmas.List.Sums.{fold-append}
use Rattle.std.proofs.lemmas.List.Elements.{All-nil, All-cons, All-append}
use Rattle.sem_msg.specs.declared.message.Message.{Message}
use Rattle.sem_msg.specs.declared.event.Event.{Event}
use Rattle.sem_msg.specs.declared.entry.Entry.{Entry}
use Rattle.sem_msg.specs.Setup.{Setup}
use Rattle.sem_msg.specs.Journal.{part}
use Rattle.sem_msg.proofs.Moves.{part-own, part-other}
use Rattle.sem_machine.specs.Sides.{Side}
use Rattle.sem_machine.specs.Machine.{is_enabled, entry_of, local_entry}
use Rattle.sem_machine.specs.Schedules.{IsSchedule, IsLocalRun, local_run, carried_in, world_after}
use Rattle.sem_machine.proofs.Pushing.{schedule-push, entry_of-event}
use Rattle.sem_parts.specs.Parts.{IsNext}
use Rattle.sem_parts.proofs.LocalRuns.{runs-before}
use Rattle.sem_parts.proofs.Together.{schedule-parts}
use Rattle.sem_numbering.specs.Nodes.{Node, IsMadeBy, IsFoundPart, HasNoNode}
use Rattle.sem_histories.specs.Outcomes.{and_then}
use Rattle.sem_histories.specs.Trees.{IsTree, part_below, AreTrees}
use Rattle.sem_histories.proofs.TreeParts.{tree-put}
use Rattle.sem_outcomes.specs.Met.{kernel_parts, ArePartTrees, AreNumbersIn}

-- The parts that nodes tell.

pub parts-start : kernel_parts [] ≡ [] ∷ []
unfolding kernel_parts
parts-start = refl

pub parts-push : (nodes : List Node) (p : ℕ) (e : Entry) → kernel_parts (nodes ++ (p, e) ∷ []) ≡ kernel_parts nodes ++ part_below (kernel_parts nodes) p e ∷ []
unfolding kernel_parts
parts-push nodes p e = fold-append (λ parts (n : Node). parts ++ part_below parts n.0 n.1 ∷ []) ([] ∷ []) nodes ((p, e) ∷ [])

-- Numbers, with trees that may have more parts.

-- the trees tell what they told, and maybe more
abbrev pub TreesGrow : Setup → List (List Node) → List (List Node) → Type 0
TreesGrow T trees more = (i : ℕ) → i < T.kernels → (rest : List (List Entry)) × (kernel_parts (get_or more i []) ≡ kernel_parts (get_or trees i []) ++ rest)

module _ (T : Setup) where
  pub told : (trees : List (List Node)) (i : ℕ) → length trees ≡ T.kernels → i < T.kernels → get_or (map kernel_parts trees) i [] ≡ kernel_parts (get_or trees i [])
  told trees i many here = get_or-map kernel_parts trees i [] [] (omega (arith, many, here))

  pub trees-are : (trees : List (List Node)) → ArePartTrees T trees → AreTrees T (map kernel_parts trees)
  trees-are trees are i here = (get_or trees i [], subst (IsTree (get_or trees i [])) (sym (told trees i are.many here)) (are.each i here))

  pub numbers-kept : (trees more : List (List Node)) (ns : List ℕ) (J : List Entry) → length trees ≡ T.kernels → length more ≡ T.kernels →
      TreesGrow T trees more
      → AreNumbersIn T trees ns J → AreNumbersIn T more ns J
  numbers-kept trees more ns J many many' grow are = record {
    count = are.count;
    within = λ i here. longer i here (inside i here);
    parts = λ i here.
        ap (λ L. get_or L (get_or ns i 0) []) (told more i many' here ∙ (grow i here).1)
        ∙ (get_or_append_left (kernel_parts (get_or trees i [])) (grow i here).0 [] (get_or ns i 0) (inside i here)
        ∙ (ap (λ L. get_or L (get_or ns i 0) []) (sym (told trees i many here)) ∙ are.parts i here));
  }
    where
      inside : (i : ℕ) → i < T.kernels → get_or ns i 0 < length (kernel_parts (get_or trees i []))
      inside i here = subst (λ (L : List (List Entry)). get_or ns i 0 < length L) (told trees i many here) (are.within i here)

      longer : (i : ℕ) → i < T.kernels → get_or ns i 0 < length (kernel_parts (get_or trees i [])) → get_or ns i 0 < length (get_or (map kernel_parts more) i [])
      longer i here less =
          let whole = ap length (told more i many' here ∙ (grow i here).1) in
          let long = length-append (kernel_parts (get_or trees i [])) (grow i here).0 in
          omega (arith, less, whole, long)

  -- the number of the kernel whose entry comes changes
  pub numbers-next : (trees : List (List Node)) (ns : List ℕ) (J : List Entry) (x : Entry) (i n : ℕ) → length trees ≡ T.kernels → x.event.kernel ≡ i →
      i < T.kernels
      → n < length (kernel_parts (get_or trees i [])) → get_or (kernel_parts (get_or trees i [])) n [] ≡ part J i ++ x ∷ []
      → AreNumbersIn T trees ns J → AreNumbersIn T trees (set ns i n) (J ++ x ∷ [])
  numbers-next trees ns J x i n many own here inside is are = record {
    count = length-set ns i n ∙ are.count;
    within = λ j there. elim (cases_eq j i) [
      | inl same ↦ subst (λ k. get_or (set ns i n) k 0 < length (get_or (map kernel_parts trees) k [])) (sym same) own-within
      | inr apart ↦ subst (λ m. m < length (get_or (map kernel_parts trees) j [])) (sym (get_or-set_other ns i j n 0 apart)) (are.within j there)
    ];
    parts = λ j there. elim (cases_eq j i) [
      | inl same ↦ subst (λ k. get_or (get_or (map kernel_parts trees) k []) (get_or (set ns i n) k 0) [] ≡ part (J ++ x ∷ []) k) (sym same) own-part
      | inr apart ↦
          ap (λ m. get_or (get_or (map kernel_parts trees) j []) m []) (get_or-set_other ns i j n 0 apart)
          ∙ (are.parts j there ∙ sym (part-other J x j (λ same. apart (sym same ∙ own))))
    ];
  }
    where
      placed : get_or (set ns i n) i 0 ≡ n
      placed = let long = are.count in get_or-set_same ns i n 0 (omega (arith, long, here))

      own-within : get_or (set ns i n) i 0 < length (get_or (map kernel_parts trees) i [])
      own-within =
          subst (λ m. m < length (get_or (map kernel_parts trees) i [])) (sym placed)
          (subst (λ (L : List (List Entry)). n < length L) (sym (told trees i many here)) inside)

      own-part : get_or (get_or (map kernel_parts trees) i []) (get_or (set ns i n) i 0) [] ≡ part (J ++ x ∷ []) i
      own-part =
          ap (λ m. get_or (get_or (map kernel_parts trees) i []) m []) placed
          ∙ (ap (λ L. get_or L n []) (told trees i many here) ∙ (is ∙ sym (part-own J x i own)))

-- The entry that an event makes after a history.

-- a kernel makes one entry by an event and a message
pub same-next : (T : Setup) (i : ℕ) (s : Side) (x y : Entry) → IsNext T i s x → IsNext T i s y → x.event ≡ y.event
    → carried_in x.event.act x.detail ≡ carried_in y.event.act y.detail → x ≡ y
same-next T i s x y next next' event message = next.made ∙ ((λ k. local_entry T i s (event k).act (message k)) ∙ sym next'.made)

module _ (T : Setup) (J : List Entry) (runs : IsSchedule T J) (ev : Event) (enabled : is_enabled T (world_after T J) ev ≡ true)
    (here : ev.kernel < T.kernels) where
  abbrev made : Entry
  made = entry_of T (world_after T J) ev

  pub made-own : (entry_of T (world_after T J) ev).event.kernel ≡ ev.kernel
  made-own = ap (λ (e : Event). e.kernel) (entry_of-event T (world_after T J) ev)

  -- the part of its kernel goes on by it
  pub made-runs : IsLocalRun T ev.kernel (part J ev.kernel ++ made ∷ [])
  made-runs = subst (IsLocalRun T ev.kernel) (part-own J made ev.kernel made-own)
      ((schedule-parts T (J ++ made ∷ []) (schedule-push T J ev runs enabled)).runs ev.kernel here)

  next-after : (y : Entry) → IsLocalRun T ev.kernel (part J ev.kernel ++ y ∷ []) → IsNext T ev.kernel (local_run T ev.kernel (part J ev.kernel)) y
  next-after y run = runs-before T ev.kernel (part J ev.kernel) (local_run T ev.kernel (part J ev.kernel)) y run
      (record { run = (schedule-parts T J runs).runs ev.kernel here; side = refl })

  -- another entry by the event and its message, after the same part, is that one
  pub made-same : (message : Option Message) → IsMadeBy ev message made → (y : Entry) → IsMadeBy ev message y →
      IsLocalRun T ev.kernel (part J ev.kernel ++ y ∷ [])
      → made ≡ y
  made-same message by y by' run =
      same-next T ev.kernel (local_run T ev.kernel (part J ev.kernel)) made y (next-after made made-runs) (next-after y run)
      (by.event ∙ sym by'.event) (by.message ∙ sym by'.message)

  -- With trees that have the part of the kernel before it as part p.
  module _ (trees : List (List Node)) (are : ArePartTrees T trees) (ns : List ℕ) (of_J : AreNumbersIn T trees ns J) (message : Option Message)
      (by : IsMadeBy ev message made) where
    abbrev nodes : List Node
    nodes = get_or trees ev.kernel []

    abbrev p : ℕ
    p = get_or ns ev.kernel 0

    p-within : p < length (kernel_parts nodes)
    p-within = subst (λ (L : List (List Entry)). p < length L) (told T trees ev.kernel are.many here) (of_J.within ev.kernel here)

    p-part : get_or (kernel_parts nodes) p [] ≡ part J ev.kernel
    p-part = ap (λ L. get_or L p []) (sym (told T trees ev.kernel are.many here)) ∙ of_J.parts ev.kernel here

    pub p-node : p ≤ length nodes
    p-node =
        let long = (are.each ev.kernel here).long in
        let inside = p-within in
        omega (arith, long, inside)

    -- The part that goes on is found.
    module _ (n : ℕ) (found : IsFoundPart nodes p ev message n) where
      found-within : found.place < length nodes
      found-within = slice_get_within nodes found.place (p, found.node.entry) found.node.node

      found-node : get_or nodes found.place (p, found.node.entry) ≡ (p, found.node.entry)
      found-node = get_or_from_slice_get nodes found.place (p, found.node.entry) (p, found.node.entry) found.node.node

      n-within : n < length (kernel_parts nodes)
      n-within =
          let long = (are.each ev.kernel here).long in
          let less = found-within in
          let same = found.number in
          omega (arith, long, less, same)

      n-below : get_or (kernel_parts nodes) n [] ≡ part J ev.kernel ++ found.node.entry ∷ []
      n-below =
          ap (λ k. get_or (kernel_parts nodes) k []) found.number
          ∙ ((are.each ev.kernel here).child found.place (p, found.node.entry) found-within
          ∙ (ap (λ (d : Node). get_or (kernel_parts nodes) d.0 [] ++ d.1 ∷ []) found-node ∙ ap (λ L. L ++ found.node.entry ∷ []) p-part))

      pub numbers-found : AreNumbersIn T trees (set ns ev.kernel n) (and_then T J ev)
      numbers-found =
          let run : IsLocalRun T ev.kernel (part J ev.kernel ++ found.node.entry ∷ []) =
          subst (IsLocalRun T ev.kernel) n-below (are.runs ev.kernel here n [] n-within) in
          numbers-next T trees ns J made ev.kernel n are.many made-own here n-within
          (n-below ∙ ap (λ y. part J ev.kernel ++ y ∷ []) (sym (made-same message by found.node.entry found.node.made run))) of_J

    -- It is not, and is put at the end.
    module _ (missing : HasNoNode nodes p ev message) where
      abbrev more : List (List Node)
      more = set trees ev.kernel (nodes ++ (p, made) ∷ [])

      more-own : get_or more ev.kernel [] ≡ nodes ++ (p, made) ∷ []
      more-own = let many = are.many in get_or-set_same trees ev.kernel (nodes ++ (p, made) ∷ []) [] (omega (arith, many, here))

      more-other : (j : ℕ) → j ≢ ev.kernel → get_or more j [] ≡ get_or trees j []
      more-other j apart = get_or-set_other trees ev.kernel j (nodes ++ (p, made) ∷ []) [] apart

      own-parts : kernel_parts (get_or more ev.kernel []) ≡ kernel_parts nodes ++ (part J ev.kernel ++ made ∷ []) ∷ []
      own-parts = ap kernel_parts more-own ∙ (parts-push nodes p made ∙ ap (λ L. kernel_parts nodes ++ (L ++ made ∷ []) ∷ []) p-part)

      own-tree : IsTree (get_or more ev.kernel []) (kernel_parts (get_or more ev.kernel []))
      own-tree =
          subst (λ (ms : List Node). IsTree ms (kernel_parts ms)) (sym more-own)
          (subst (IsTree (nodes ++ (p, made) ∷ [])) (sym (parts-push nodes p made))
          (tree-put nodes (kernel_parts nodes) (are.each ev.kernel here) p made p-node (missing made by)))

      own-runs : All (IsLocalRun T ev.kernel) (kernel_parts (get_or more ev.kernel []))
      own-runs =
          subst (All (IsLocalRun T ev.kernel)) (sym own-parts)
          (All-append (IsLocalRun T ev.kernel) (kernel_parts nodes) ((part J ev.kernel ++ made ∷ []) ∷ []) (are.runs ev.kernel here)
          (All-cons (IsLocalRun T ev.kernel) (part J ev.kernel ++ made ∷ []) [] made-runs (All-nil (IsLocalRun T ev.kernel))))

      pub trees-more : ArePartTrees T (set trees ev.kernel (nodes ++ (p, made) ∷ []))
      trees-more = record {
        many = length-set trees ev.kernel (nodes ++ (p, made) ∷ []) ∙ are.many;
        each = λ j there. elim (cases_eq j ev.kernel) [
          | inl same ↦ subst (λ k. IsTree (get_or more k []) (kernel_parts (get_or more k []))) (sym same) own-tree
          | inr apart ↦ subst (λ (ms : List Node). IsTree ms (kernel_parts ms)) (sym (more-other j apart)) (are.each j there)
        ];
        runs = λ j there. elim (cases_eq j ev.kernel) [
          | inl same ↦ subst (λ k. All (IsLocalRun T k) (kernel_parts (get_or more k []))) (sym same) own-runs
          | inr apart ↦ subst (λ (ms : List Node). All (IsLocalRun T j) (kernel_parts ms)) (sym (more-other j apart)) (are.runs j there)
        ];
      }

      pub trees-grow : TreesGrow T trees (set trees ev.kernel (nodes ++ (p, made) ∷ []))
      trees-grow j there = elim (cases_eq j ev.kernel) [
        | inl same ↦ subst (λ k. (rest : List (List Entry)) × (kernel_parts (get_or more k []) ≡ kernel_parts (get_or trees k []) ++ rest)) (sym same)
            ((part J ev.kernel ++ made ∷ []) ∷ [], own-parts)
        | inr apart ↦ ([], ap kernel_parts (more-other j apart) ∙ sym (append-nil (kernel_parts (get_or trees j []))))
      ]

      pub numbers-put : (n : ℕ) → n ≡ length (nodes ++ (p, made) ∷ []) → AreNumbersIn T (set trees ev.kernel (nodes ++ (p, made) ∷ [])) (set ns ev.kernel n)
          (and_then T J ev)
      numbers-put n last =
          let long = (are.each ev.kernel here).long in
          let up = length_push nodes (p, made) in
          let at : length (kernel_parts nodes) ≡ n = omega (arith, long, up, last) in
          let whole = ap length own-parts in
          let wide = length_push (kernel_parts nodes) (part J ev.kernel ++ made ∷ []) in
          numbers-next T more ns J made ev.kernel n trees-more.many made-own here (omega (arith, at, whole, wide))
          (ap (λ L. get_or L n []) own-parts ∙ get_or_at (kernel_parts nodes) (part J ev.kernel ++ made ∷ []) [] [] n at)
          (numbers-kept T trees more ns J are.many trees-more.many trees-grow of_J)
