-- The numbers of the parts tell them all.
use Rattle.std.proofs.Common.{◌≡◌, ℕ, ◌<◌, List, [], get_or, refl, sym, ◌∙◌, ap}
use Rattle.std.proofs.lemmas.List.FromFn.{fill_by_all}
use Rattle.sem_msg.specs.declared.entry.Entry.{Entry}
use Rattle.sem_msg.specs.Setup.{Setup}
use Rattle.sem_histories.specs.Outcomes.{HasSameParts}
use Rattle.sem_histories.specs.Trees.{AreTrees, AreNumbersOf}
use Rattle.sem_histories.proofs.TreeParts.{tree-tells}

module _ (T : Setup) (trees : List (List (List Entry))) (ns ms : List ℕ) (J K : List Entry) (are : AreTrees T trees) (of_J : AreNumbersOf T trees ns J)
    (of_K : AreNumbersOf T trees ms K) where
  pub numbers-parts : ns ≡ ms → HasSameParts T J K
  numbers-parts same i here = sym (of_J.parts i here) ∙ (ap (λ ks. get_or (get_or trees i []) (get_or ks i 0) []) same ∙ of_K.parts i here)

  same-number : HasSameParts T J K → (i : ℕ) → i < T.kernels → get_or ns i 0 ≡ get_or ms i 0
  same-number same i here =
      let (nodes, tree) = are i here in
      tree-tells nodes (get_or trees i []) tree (get_or ns i 0) (get_or ms i 0) (of_J.within i here) (of_K.within i here)
      (of_J.parts i here ∙ (same i here ∙ sym (of_K.parts i here)))

  pub parts-numbers : HasSameParts T J K → ns ≡ ms
  parts-numbers same =
      fill_by_all (λ i. get_or ms i 0) ns T.kernels 0 of_J.count (same-number same)
      ∙ sym (fill_by_all (λ i. get_or ms i 0) ms T.kernels 0 of_K.count (λ i here. refl))
