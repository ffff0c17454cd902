-- A line that begins with `do`.
use Rattle.std.proofs.Common.{◌≡◌, ℕ, List, [], ◌∷◌, drop, Option, codes, ap, ◌∙◌, get_or-drop}
use Rattle.sem_trace.specs.declared.fault.Cause.{Cause}
use Rattle.sem_trace.specs.Forms.{Place, form_fault, choice, word_at}
use Rattle.sem_files.specs.FileForms.{acts, client, lines, form}

-- the fault behind the name is that of the words behind the client against the form of an act
behind_fault : (words rest : List (List ℕ)) (fault : Option (Cause × ℕ)) → ((more : List Place) → form_fault (client ∷ more) words ≡ form_fault more rest) →
    rest ≡ drop 1 words → form_fault (choice acts (word_at rest 0)) rest ≡ fault → form_fault (client ∷ choice acts (word_at words 1)) words ≡ fault
behind_fault words rest fault filled behind is =
    let name : word_at rest 0 ≡ word_at words 1 = ap (λ (ws : List (List ℕ)). word_at ws 0) behind ∙ get_or-drop 1 words 0 [] in
    filled (choice acts (word_at words 1)) ∙ (rw (← name) is)

-- so is that of the line
pub do_line_fault : (words rest : List (List ℕ)) (fault : Option (Cause × ℕ)) →
    ((more : List Place) → form_fault (client ∷ more) words ≡ form_fault more rest) →
    rest ≡ drop 1 words → form_fault (choice acts (word_at rest 0)) rest ≡ fault → form_fault (form (codes "do" ∷ words)) (codes "do" ∷ words) ≡ fault
unfolding form_fault form lines
do_line_fault words rest fault filled behind is = behind_fault words rest fault filled behind is
