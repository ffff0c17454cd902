-- Rows that are added, and rows of a journal that goes on.
use Rattle.std.proofs.Common.{◌≡◌, ℕ, ◌+◌, ◌<◌, ◌≤◌, ◌-◌, List, [], ◌∷◌, ◌++◌, length, get_or, fold, refl, sym, ap, ◌∙◌, inl, inr, arith}
use Rattle.std.specs.Prelude.{nat_lt, if◌then◌else◌}
use Rattle.std.specs.List.{All}
use Rattle.std.proofs.lemmas.Bool.{cases_eq, cond-true, cond-false, le-ltb, lt-ltb}
use Rattle.std.proofs.lemmas.List.{take-append-le, take_all, length-append}
use Rattle.std.proofs.lemmas.List.Sums.{fold-append}
use Rattle.std.proofs.lemmas.List.Elements.{All-nil, All-push, All-head, All-tail, All-weaker, All-get_or}
use Rattle.std.proofs.lemmas.List.Sorted.{IsNonDecreasingBy-push, IsNonDecreasingBy-short}
use Rattle.sem_key.specs.KeyName.{KeyName}
use Rattle.sem_msg.specs.declared.entry.Entry.{Entry}
use Rattle.sem_msg.specs.Setup.{Setup}
use Rattle.sem_machine.specs.Machine.{start}
use Rattle.sem_machine.specs.Schedules.{world_after}
use Rattle.sem_story.specs.declared.rows.StoryRow.{StoryRow}
use Rattle.sem_story.specs.declared.stages.Stage.{Stage}
use Rattle.sem_story.specs.declared.stages.Stage.TheVariants.{Nowhere}
use Rattle.sem_story.specs.declared.walks.When.{When}
use Rattle.sem_story.specs.Stages.{stage_in}
use Rattle.sem_story.specs.Telling.{entries_of, TellsStage, TellStages, last_stage, stage_at}
use Rattle.sem_story.specs.Walks.{AreNoted, IsOneOf, Notes}

-- what a row tells of n entries, where this was told before it
abbrev then_told : ℕ → Stage → StoryRow → Stage
then_told n stage r = if nat_lt n (entries_of r) then stage else r.stage

-- the last row tells what they tell of n entries, if all tell of no more
told-last : (n : ℕ) (stage : Stage) (rows : List StoryRow) → All (λ (r : StoryRow). entries_of r ≤ n) rows →
    fold (then_told n) stage rows ≡ fold (λ (s : Stage) (r : StoryRow). r.stage) stage rows
told-last n stage [] within = refl
told-last n stage (r ∷ rows) within =
    let first : entries_of r ≤ n = All-head (λ (x : StoryRow). entries_of x ≤ n) r rows within in
    let here : then_told n stage r ≡ r.stage = cond-false (nat_lt n (entries_of r)) stage r.stage (le-ltb n (entries_of r) first) in
    ap (λ (s : Stage). fold (then_told n) s rows) here ∙ told-last n r.stage rows (All-tail (λ (x : StoryRow). entries_of x ≤ n) r rows within)

-- a row of more entries tells nothing of n
told-earlier : (n : ℕ) (rows : List StoryRow) (r : StoryRow) → n < entries_of r → stage_at n (rows ++ r ∷ []) ≡ stage_at n rows
told-earlier n rows r more = fold-append (then_told n) Nowhere rows (r ∷ [])
    ∙ cond-true (nat_lt n (entries_of r)) (stage_at n rows) r.stage (lt-ltb n (entries_of r) more)

pub last-push : (rows : List StoryRow) (r : StoryRow) → last_stage (rows ++ r ∷ []) ≡ r.stage
last-push rows r = fold-append (λ (s : Stage) (x : StoryRow). x.stage) Nowhere rows (r ∷ [])

module _ (T : Setup) (k : KeyName) where
  told-longer : (J xs : List Entry) (r : StoryRow) → TellsStage T J k r → TellsStage T (J ++ xs) k r
  told-longer J xs r told = record {
    within = let long = length-append J xs in let within = told.within in omega (arith, long, within);
    stage = told.stage ∙ ap (λ (K : List Entry). stage_in T (world_after T K) k) (sym (take-append-le (entries_of r) J xs told.within));
  }

  told-now : (J : List Entry) (r : StoryRow) → entries_of r ≡ length J → r.stage ≡ stage_in T (world_after T J) k → TellsStage T J k r
  told-now J r all is = record {
    within = omega (arith, all);
    stage = is ∙ ap (λ (K : List Entry). stage_in T (world_after T K) k) (sym (take_all (entries_of r) J (omega (arith, all))));
  }

  -- rows that tell of a journal are those of it and an entry more, before that is noted
  pub noted-before : (J : List Entry) (e : Entry) (rows : List StoryRow) → TellStages T J k rows → AreNoted T (J ++ e ∷ []) k rows
  noted-before J e rows are = record {
    told = All-weaker (TellsStage T J k) (TellsStage T (J ++ e ∷ []) k) (told-longer J (e ∷ [])) rows are.told;
    rising = are.rising;
    earlier = λ n less.
        let long = length-append J (e ∷ []) in
        let within : n ≤ length J = omega (arith, long, less) in
        are.whole n within ∙ ap (λ (K : List Entry). stage_in T (world_after T K) k) (sym (take-append-le n J (e ∷ []) within));
  }

  -- a row more, of the last entry
  pub noted-more : (J : List Entry) (rows : List StoryRow) (r : StoryRow) → entries_of r ≡ length J → r.stage ≡ stage_in T (world_after T J) k →
      AreNoted T J k rows → AreNoted T J k (rows ++ r ∷ [])
  noted-more J rows r all is are = record {
    told = All-push (TellsStage T J k) rows r are.told (told-now J r all is);
    rising = IsNonDecreasingBy-push entries_of rows r are.rising (λ d some.
        let last : TellsStage T J k (get_or rows (length rows - 1) d) = All-get_or (TellsStage T J k) rows (length rows - 1) d (omega (arith, some)) are.told in
        let within = last.within in
        omega (arith, within, all));
    earlier = λ n less. told-earlier n rows r (omega (arith, less, all)) ∙ are.earlier n less;
  }

  -- when the last row tells what has become of the key by the last entry, all is told
  pub told-all : (J : List Entry) (rows : List StoryRow) → last_stage rows ≡ stage_in T (world_after T J) k → AreNoted T J k rows → TellStages T J k rows
  told-all J rows last are = record {
    told = are.told;
    rising = are.rising;
    whole = λ n within. elim (cases_eq n (length J)) [
      | inl same ↦
          let all : All (λ (r : StoryRow). entries_of r ≤ n) rows = All-weaker (TellsStage T J k) (λ (r : StoryRow). entries_of r ≤ n) (λ r told. let in_all =
          told.within in omega (arith, in_all, same)) rows are.told in
          told-last n Nowhere rows all ∙ (last ∙ ap (λ (K : List Entry). stage_in T (world_after T K) k) (sym (take_all n J (omega (arith, same)))))
      | inr other ↦ are.earlier n (omega (arith, other, within))
    ];
  }

  -- then the last row tells what has become of the key in the end
  pub told-end : (J : List Entry) (rows : List StoryRow) → TellStages T J k rows → last_stage rows ≡ stage_in T (world_after T J) k
  told-end J rows are =
      let all : All (λ (r : StoryRow). entries_of r ≤ length J) rows =
      All-weaker (TellsStage T J k) (λ (r : StoryRow). entries_of r ≤ length J) (λ r told. told.within) rows are.told in
      sym (told-last (length J) Nowhere rows all)
      ∙ (are.whole (length J) (omega arith) ∙ ap (λ (K : List Entry). stage_in T (world_after T K) k) (take_all (length J) J (omega arith)))

  -- no rows tell of no entry
  noted-none : AreNoted T [] k []
  noted-none = record {
    told = All-nil (TellsStage T [] k);
    rising = IsNonDecreasingBy-short entries_of [] (omega arith);
    earlier = λ n less. absurd (omega (arith, less));
  }

  pub told-first : (r : StoryRow) → entries_of r ≡ 0 → r.stage ≡ stage_in T (start T) k → TellStages T [] k (r ∷ [])
  told-first r none is = told-all [] (r ∷ []) is (noted-more [] [] r none is noted-none)

  pub told-nowhere : Nowhere ≡ stage_in T (start T) k → TellStages T [] k []
  told-nowhere is = told-all [] [] is noted-none

-- what is noted when nothing is
pub notes-none : (when : When) (rows : List StoryRow) → Notes when rows rows
notes-none when rows T J k all is are = are

-- what is noted in turn
pub notes-then : (when : When) (a b c : List StoryRow) → Notes when a b → Notes when b c → Notes when a c
notes-then when a b c first second T J k all is are = second T J k all is (first T J k all is are)

pub notes-one : (when : When) (rows : List StoryRow) (r : StoryRow) → entries_of r ≡ when.number + 1 → r.stage ≡ when.stage → Notes when rows (rows ++ r ∷ [])
notes-one when rows r number stage T J k all is are = noted-more T k J rows r (number ∙ all) (stage ∙ is) are

pub one-then : (a b c stage : Stage) → IsOneOf b a stage → IsOneOf c b stage → IsOneOf c a stage
one-then a b c stage first (inl same) = elim first [ inl old ↦ inl (same ∙ old) | inr new ↦ inr (same ∙ new) ]
one-then a b c stage first (inr new) = inr new
