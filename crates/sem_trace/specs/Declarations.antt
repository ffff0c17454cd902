-- What the words of a line with a form say ("The trace" in docs/texts.md).
use Rattle.std.specs.Prelude.{ℕ, List, drop, codes, Bool, if◌then◌else◌}
use Rattle.std.specs.Str.{bytes_eq}
use Rattle.sem_msg.specs.declared.call.Call.{Call}
use Rattle.sem_msg.specs.declared.call.Call.TheVariants.{Derive, Gate, Obtain, Delegate, OpenSession, AskOffer}
use Rattle.sem_msg.specs.declared.call.Call.TheVariants.{Revoke, Bind, Read, Write, Send, Credit, Exit, Clear}
use Rattle.sem_text.specs.Number.{number_value}
use Rattle.sem_trace.specs.Forms.{word_at}
use Rattle.sem_trace.specs.declared.declaration.Declaration.{Declaration}
use Rattle.sem_trace.specs.declared.declaration.Declaration.TheVariants.{Kernels, Window, Pe, Vpe, Memory, Receive}
use Rattle.sem_trace.specs.declared.declaration.Declaration.TheVariants.{Service, Offer, Deny, Kill, Call as Calls}
use Rattle.sem_trace.specs.declared.declaration.Declaration.TheVariants.{End}

-- whether that word stands at the place
abbrev pub stands_at : List (List ℕ) → ℕ → List ℕ → Bool
stands_at words i name = bytes_eq (word_at words i) name

-- the number at the place
abbrev pub number_at : List (List ℕ) → ℕ → ℕ
number_at words i = number_value (word_at words i)

-- the call of words that begin with its name
unfoldable pub call_from : List (List ℕ) → Call
call_from words =
    let is : List ℕ → Bool = stands_at words 0 in
    let n : ℕ → ℕ = number_at words in
    if is (codes "derive") then Derive (n 1) (n 2) (n 3) (n 4) (n 5)
    else (if is (codes "gate") then Gate (n 1) (n 2) (n 3) (n 4)
    else (if is (codes "obtain") then Obtain (n 1) (n 2) (n 3)
    else (if is (codes "delegate") then Delegate (n 1) (n 2) (n 3)
    else (if is (codes "open") then OpenSession (n 1) (n 2)
    else (if is (codes "ask") then AskOffer (n 1) (n 2) (n 3)
    else (if is (codes "revoke") then Revoke (n 1)
    else (if is (codes "bind") then Bind (n 1) (n 2)
    else (if is (codes "read") then Read (n 1) (n 2) (n 3)
    else (if is (codes "write") then Write (n 1) (n 2) (n 3)
    else (if is (codes "send") then Send (n 1) (n 2)
    else (if is (codes "credit") then Credit (n 1)
    else (if is (codes "clear") then Clear (n 1)
    else Exit))))))))))))

-- the root of the words after `root`
unfoldable pub root_from : List (List ℕ) → Declaration
root_from words =
    let n : ℕ → ℕ = number_at words in
    if stands_at words 2 (codes "mem") then Memory (n 0) (n 1) (n 3) (n 4) (n 5) else Receive (n 0) (n 1) (n 3)

-- what a line after the second says
unfoldable pub declaration : List (List ℕ) → Declaration
declaration words =
    let is : List ℕ → Bool = stands_at words 0 in
    let n : ℕ → ℕ = number_at words in
    if is (codes "kernels") then Kernels (n 1)
    else (if is (codes "pe") then Pe (n 1) (n 2)
    else (if is (codes "vpe") then Vpe (n 1) (n 2)
    else (if is (codes "root") then root_from (drop 1 words)
    else (if is (codes "service") then Service (n 1) (n 2) (n 3)
    else (if is (codes "offer") then Offer (n 1) (n 2) (n 3)
    else (if is (codes "deny") then Deny (n 1) (n 2)
    else (if is (codes "kill") then Kill (n 1) (n 2)
    else (if is (codes "call") then Calls (n 1) (call_from (drop 2 words))
    else (if is (codes "window") then Window (n 1)
    else End)))))))))
