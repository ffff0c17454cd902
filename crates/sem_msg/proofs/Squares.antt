-- A link for each pair of kernels, at the start and after a link was written.
use Rattle.std.proofs.Common.{◌≡◌, ℕ, ◌<◌, List, [], length, get_or, replicate, sym, ◌∙◌, ap, subst, inl, inr, arith, get_or-set_same, get_or-set_other}
use Rattle.std.proofs.lemmas.Bool.{cases_eq}
use Rattle.std.proofs.lemmas.List.{length-replicate, get_or-replicate}
use Rattle.sem_key.specs.Lists.{put}
use Rattle.sem_key.proofs.Puts.{put-set, length-put}
use Rattle.sem_msg.specs.declared.message.Message.{Message}
use Rattle.sem_msg.specs.Fabric.{IsSquare, link_put}

pub square-put : (n : ℕ) (links : List (List (List Message))) (i j : ℕ) (ms : List Message) → IsSquare n links → i < n → j < n →
    IsSquare n (link_put i j ms links)
square-put n links i j ms is here there =
    let rows = is.rows in
    let within : i < length links = omega (arith, here, rows) in
    let wide = is.each i here in
    let row : List (List Message) = put [] (get_or links i []) j ms in
    let long : length row ≡ n = length-put [] (get_or links i []) j ms (omega (arith, there, wide)) ∙ wide in
    let as_set = put-set [] links i row within in
    record {
      rows = length-put [] links i row within ∙ rows;
      each = λ k inside. elim (cases_eq k i) [
        | inl same ↦ subst (λ m. length (get_or (link_put i j ms links) m []) ≡ n) (sym same)
            (ap (λ (l : List (List (List Message))). length (get_or l i [])) as_set ∙ (ap length (get_or-set_same links i row [] within) ∙ long))
        | inr apart ↦ ap (λ (l : List (List (List Message))). length (get_or l k [])) as_set
            ∙ (ap length (get_or-set_other links i k row [] apart) ∙ is.each k inside)
      ];
    }

pub square-start : (n : ℕ) → IsSquare n (replicate n (let row : List (List Message) = replicate n [] in row))
square-start n = let row : List (List Message) = replicate n [] in record {
  rows = length-replicate n row;
  each = λ i within. ap length (get_or-replicate n i row [] within) ∙ length-replicate n [];
}
