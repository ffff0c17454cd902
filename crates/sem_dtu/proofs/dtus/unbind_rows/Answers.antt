use Rattle.std.proofs.Common.{◌≡◌, [], get_or, refl, rules, length, ap, sym, ◌∙◌, arith, length-set}
use Rattle.sem_dtu.proofs.Unbound.{table-done, ours-more, endpoints-more, no-endpoints}
use Rattle.sem_dtu.proofs.dtus.unbind_rows.Goals as goal
use Rattle.sem_dtu.proofs.dtus.unbind_rows.Goals.{then-not-is_empty, else-not-is_empty}

-- one more row is not bound to the keys; a row without endpoints is bound to none
pub loop-row-preserved : goal.loop-row-preserved
loop-row-preserved c =
    let before = c.deref_mut-row-items.result.now in
    let rows = c.loop-row.row-items in
    let i = c.loop-row.row-index in
    let row = c.row-item.result in
    let within = c.loop-row-test.true in
    elim c.if-not-is_empty.branch [
      | then-not-is_empty w ↦ rw w.row-items-is (record {
        ours = ours-more c.args.keys.now before rows i row w.unbind_row.new.row (omega arith) c.loop-row.invariant.long w.unbind_row.ensures.ours
            ∙ c.loop-row.invariant.ours;
        rows = endpoints-more c.args.keys.now before rows i row w.unbind_row.new.row (omega arith) c.loop-row.invariant.long w.unbind_row.ensures.endpoints
            c.loop-row.invariant.rows;
        long = length-set rows i w.unbind_row.new.row ∙ c.loop-row.invariant.long;
      })
      | else-not-is_empty w ↦
          let same = get_or rows i row in
          let none : same.endpoints.items ≡ [] = no-endpoints same.endpoints.items (search rules) in
          rw w.row-items-is (record {
            ours = ours-more c.args.keys.now before rows i row same (omega arith) c.loop-row.invariant.long refl ∙ c.loop-row.invariant.ours;
            rows = endpoints-more c.args.keys.now before rows i row same (omega arith) c.loop-row.invariant.long (rw none refl) c.loop-row.invariant.rows;
            long = length-set rows i same ∙ c.loop-row.invariant.long;
          })
    ]

pub returns : goal.returns
returns c = table-done c.args.keys.now c.args.rows.now.len c.deref_mut-row-items.result.now c.loop-row.row-items c.args.rows.now.items c.loop-row.row-index
    c.deref_mut-row-items.ensures.value (ap length c.deref_mut-row-items.ensures.value
    ∙ sym c.args.rows.now.ok.0) c.loop-row.invariant.long c.loop-row-test.false c.loop-row.invariant.ours c.loop-row.invariant.rows
