use Rattle.sem_laws.proofs.lives_tell_where_keys_are.Goals as goal

pub returns : goal.returns
returns c T valid J schedule = record {
  of_made = c.lives_tell_where_keys_are.ensures.made T valid J schedule;
  no_other = c.lives_tell_where_keys_are.ensures.no_other T valid J schedule;
  rising = c.lives_tell_where_keys_are.ensures.rising T valid J schedule;
  there = c.lives_tell_where_keys_are.ensures.there T valid J schedule;
}
