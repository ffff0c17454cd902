use Rattle.std.proofs.Common.{rules, ◌≡◌, ℕ, zero, suc, ◌<◌, codes, length, get_or, arith}
use Rattle.std.proofs.lemmas.List.{ext_get_or}
use Rattle.std.proofs.lemmas.Result.{err_from_is_err_and}
use Rattle.sem_files.specs.FileForms.{form}
use Rattle.sem_files.proofs.forms.read_words.Goals as goal

pub returns-in_err-word : goal.returns-in_err-word
unfolding form
returns-in_err-word c =
    let p = err_from_is_err_and c.from_residual.result c.from_residual.ensures.1 in
    rw (p.1, p.2) (record { fault = c.in_err-word.ensures.err _ _; value = tt; ranges = tt })

pub returns-in-client : goal.returns-in-client
returns-in-client c = rw (c.in_ok-word.ensures.ok, ext_get_or 0 c.in_ok-word.field-0.now (codes "client") long bytes) c.client_line.ensures
  where
    long : length c.in_ok-word.field-0.now ≡ 6
    long = omega (arith, c.in-client.len_at_least, c.in-client.len_below)

    bytes : (i : ℕ) → i < length c.in_ok-word.field-0.now → get_or c.in_ok-word.field-0.now i 0 ≡ get_or (codes "client") i 0
    bytes zero lt = search rules
    bytes (suc zero) lt = search rules
    bytes (suc (suc zero)) lt = search rules
    bytes (suc (suc (suc zero))) lt = search rules
    bytes (suc (suc (suc (suc zero)))) lt = search rules
    bytes (suc (suc (suc (suc (suc zero))))) lt = search rules
    bytes (suc (suc (suc (suc (suc (suc i)))))) lt = absurd (omega (arith, lt, long))

pub returns-in-kernels : goal.returns-in-kernels
returns-in-kernels c = rw (c.in_ok-word.ensures.ok, ext_get_or 0 c.in_ok-word.field-0.now (codes "kernels") long bytes) c.kernels_line.ensures
  where
    long : length c.in_ok-word.field-0.now ≡ 7
    long = omega (arith, c.in-kernels.len_at_least, c.in-kernels.len_below)

    bytes : (i : ℕ) → i < length c.in_ok-word.field-0.now → get_or c.in_ok-word.field-0.now i 0 ≡ get_or (codes "kernels") i 0
    bytes zero lt = search rules
    bytes (suc zero) lt = search rules
    bytes (suc (suc zero)) lt = search rules
    bytes (suc (suc (suc zero))) lt = search rules
    bytes (suc (suc (suc (suc zero)))) lt = search rules
    bytes (suc (suc (suc (suc (suc zero))))) lt = search rules
    bytes (suc (suc (suc (suc (suc (suc zero)))))) lt = search rules
    bytes (suc (suc (suc (suc (suc (suc (suc i))))))) lt = absurd (omega (arith, lt, long))
