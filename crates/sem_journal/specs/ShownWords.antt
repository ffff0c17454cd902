-- What the reader of entries keeps of a line, and how that is written.
use Rattle.std.specs.Prelude.{ℕ, ◌+◌, nat_lt, Bool, false, List, ◌++◌}
use Rattle.sem_msg.specs.Prelude.{Object, Mem}
use Rattle.sem_msg.specs.declared.message.Message.TheVariants.{ObtainOk, DelegateReq}
use Rattle.sem_msg.specs.declared.entry.Detail.{Detail}
use Rattle.sem_msg.specs.declared.entry.Detail.TheVariants.{Carried}
use Rattle.sem_journal.specs.declared.shown.Shown.{Shown}
use Rattle.sem_journal.specs.EntryText.{grant_words, cut_words, reply_words}
use Rattle.sem_journal.specs.EntryRanges.{GrantFits, CutFits, ReplyFits}

abbrev pub shown_words : Shown → List (List ℕ)
shown_words o = grant_words o.grant ++ cut_words o.cut ++ reply_words o.reply

pub record ShownFits (version : ℕ) (o : Shown) : Type 0 where
  pub grant : GrantFits version o.grant
  pub cut : CutFits version o.cut
  pub reply : ReplyFits version o.reply

-- memory that ends past 2 ^ 32
abbrev pub is_long : Object → Bool
is_long (Mem base len rights) = nat_lt 4294967296 (base + len)
is_long object = false

-- a message with such memory
abbrev pub carries_long : Detail → Bool
carries_long (Carried peer (ObtainOk parent key object)) = is_long object
carries_long (Carried peer (DelegateReq parent object vpe sel)) = is_long object
carries_long detail = false

-- the word with its length, in an entry
abbrev pub length_word : Detail → ℕ
length_word (Carried peer (ObtainOk parent key object)) = 8
length_word detail = 7
