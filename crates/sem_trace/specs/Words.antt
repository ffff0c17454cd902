-- How keys, objects and calls are written, as words ("The trace" in docs/texts.md).
use Rattle.std.specs.Prelude.{ℕ, List, [], ◌∷◌, ◌++◌, codes, decimal}
use Rattle.sem_msg.specs.Prelude.{Object, Mem, Recv, Send, Serv, Sess, KeyName, kind_number, PlaceName}
use Rattle.sem_msg.specs.declared.call.Call.{Call}
use Rattle.sem_msg.specs.declared.call.Call.TheVariants.{Derive, Gate, Obtain, Delegate, OpenSession, AskOffer}
use Rattle.sem_msg.specs.declared.call.Call.TheVariants.{Revoke, Bind, Read, Write, Send as SendCall, Credit, Exit}
use Rattle.sem_msg.specs.declared.call.Call.TheVariants.{Clear}

-- numbers with points (byte 46) between
abbrev pub key_word : KeyName → List ℕ
key_word k = decimal k.pe ++ 46 ∷ decimal k.vpe ++ 46 ∷ decimal (kind_number k.kind) ++ 46 ∷ decimal k.number

abbrev pub place_word : PlaceName → List ℕ
place_word p = decimal p.pe ++ 46 ∷ decimal p.vpe ++ 46 ∷ decimal p.number

abbrev pub object_words : Object → List (List ℕ)
object_words (Mem base len rights) = codes "mem" ∷ decimal base ∷ decimal len ∷ decimal rights ∷ []
object_words (Recv slots) = codes "recv" ∷ decimal slots ∷ []
object_words (Send gate label credits) = codes "send" ∷ key_word gate ∷ decimal label ∷ decimal credits ∷ []
object_words (Serv name) = codes "serv" ∷ decimal name ∷ []
object_words (Sess service ident) = codes "sess" ∷ key_word service ∷ decimal ident ∷ []

abbrev pub call_words : Call → List (List ℕ)
call_words (Derive src dst off len rights) = codes "derive" ∷ decimal src ∷ decimal dst ∷ decimal off ∷ decimal len
    ∷ decimal rights ∷ []
call_words (Gate src dst label credits) = codes "gate" ∷ decimal src ∷ decimal dst ∷ decimal label ∷ decimal credits
    ∷ []
call_words (Obtain dst vpe src) = codes "obtain" ∷ decimal dst ∷ decimal vpe ∷ decimal src ∷ []
call_words (Delegate src vpe dst) = codes "delegate" ∷ decimal src ∷ decimal vpe ∷ decimal dst ∷ []
call_words (OpenSession dst name) = codes "open" ∷ decimal dst ∷ decimal name ∷ []
call_words (AskOffer dst session index) = codes "ask" ∷ decimal dst ∷ decimal session ∷ decimal index ∷ []
call_words (Revoke src) = codes "revoke" ∷ decimal src ∷ []
call_words (Bind ep src) = codes "bind" ∷ decimal ep ∷ decimal src ∷ []
call_words (Read ep off len) = codes "read" ∷ decimal ep ∷ decimal off ∷ decimal len ∷ []
call_words (Write ep off len) = codes "write" ∷ decimal ep ∷ decimal off ∷ decimal len ∷ []
call_words (SendCall ep len) = codes "send" ∷ decimal ep ∷ decimal len ∷ []
call_words (Credit ep) = codes "credit" ∷ decimal ep ∷ []
call_words Exit = codes "exit" ∷ []
call_words (Clear src) = codes "clear" ∷ decimal src ∷ []
