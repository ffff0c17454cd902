-- Whether the words of an entry tell memory that ends too far.
use Rattle.std.proofs.Common.{◌≡◌, ℕ, ◌+◌, ◌<◌, ◌≤◌, ◌^◌, Bool, true, false, nat_lt, ◌==◌, ◌||◌, List, [], ◌∷◌, ◌++◌, Option, None, Some, refl}
use Rattle.std.proofs.Common.{arith, decimal, sym, true≢false}
use Rattle.std.specs.List.{list_all}
use Rattle.std.specs.Prelude.{codes}
use Rattle.std.specs.Str.{bytes_eq}
use Rattle.std.proofs.lemmas.Bool.Decides.{nat_tests}
use Rattle.sem_key.specs.declared.object.Object.TheVariants.{Mem, Recv, Send, Serv, Sess}
use Rattle.sem_key.specs.KeyName.{KeyName}
use Rattle.sem_msg.specs.declared.message.Message.{Message}
use Rattle.sem_msg.specs.declared.message.Message.TheVariants.{ObtainReq, ObtainOk, ObtainNo, DelegateReq, DelegatePrepared, DelegateNo, Ack, Orphan, RevokeReq}
use Rattle.sem_msg.specs.declared.message.Message.TheVariants.{RevokeDone, Unlink}
use Rattle.sem_msg.specs.declared.event.Act.{Act}
use Rattle.sem_msg.specs.declared.event.Act.TheVariants.{Call as Calls, Fetch, Handle, Upcall, Resume, Flush, Kill}
use Rattle.sem_msg.specs.declared.entry.Detail.{Detail}
use Rattle.sem_msg.specs.declared.entry.Detail.TheVariants.{Called, Carried, Asked, Nothing}
use Rattle.sem_msg.specs.declared.entry.Reply.{Reply}
use Rattle.sem_msg.specs.declared.entry.Entry.{Entry}
use Rattle.sem_text.specs.Number.{is_digit, number_value}
use Rattle.sem_journal.specs.EntryText.{message_words, act_words, detail_words, grant_words, cut_words, reply_words, entry_words}
use Rattle.sem_journal.specs.EntryForms.{has_long_memory, long_word}
use Rattle.sem_journal.specs.EntryRanges.{MessageFits, EventFits}
use Rattle.sem_journal.specs.ShownWords.{carries_long, length_word}
use Rattle.sem_reader.proofs.Decimals.{digits-decimal}
use Rattle.sem_reader.proofs.PlainText.{and-left}
use Rattle.sem_journal.proofs.PrintedPlaces.{small}

-- a number is no name: names begin with a letter
abbrev first_byte : List ℕ → ℕ
first_byte [] = 0
first_byte (b ∷ bs) = b

other_byte : (d b : ℕ) → is_digit d ≡ true → 58 ≤ b → (d == b) ≡ false
other_byte d b digit letter = grind (arith, nat_tests)

digits_differ : (ds name : List ℕ) → list_all is_digit ds ≡ true → 58 ≤ first_byte name → bytes_eq ds name ≡ false
digits_differ ds [] all letter = absurd (omega arith)
digits_differ [] (b ∷ bs) all letter = refl
digits_differ (d ∷ ds) (b ∷ bs) all letter = let digit : is_digit d ≡ true = and-left (is_digit d) _ all in rw (other_byte d b digit letter) refl

no_name : (n : ℕ) (name : List ℕ) → n < 2 ^ 64 → 58 ≤ first_byte name → bytes_eq (decimal n) name ≡ false
no_name n name small letter = digits_differ (decimal n) name (digits-decimal n small).0 letter

or-no : (b : Bool) → (b || false) ≡ b
or-no true = refl
or-no false = refl

value_is : (n : ℕ) → n ≤ 4294967295 → number_value (decimal n) ≡ n
value_is n small = (digits-decimal n (omega arith)).1

long_message : (version : ℕ) (kernel name peer : List ℕ) (p : ℕ) (m : Message) (g : Option (KeyName × KeyName)) (k : Option KeyName) (r : Option Reply) →
    MessageFits version m → has_long_memory (kernel ∷ name ∷ peer ∷ message_words m ++ grant_words g ++ cut_words k ++ reply_words r)
    ≡ carries_long (Carried p m)
unfolding has_long_memory
long_message version kernel name peer p (ObtainReq place target) g k r fits = refl
long_message version kernel name peer p (ObtainOk parent key (Mem base len rights)) g k r fits = rw (
  value_is base (omega (arith, fits.2.0)),
  value_is len (omega (arith, fits.2.1)),
) (or-no (nat_lt 4294967296 (base + len)))
long_message version kernel name peer p (ObtainOk parent key (Recv slots)) g k r fits = refl
long_message version kernel name peer p (ObtainOk parent key (Send gate label credits)) g k r fits = refl
long_message version kernel name peer p (ObtainOk parent key (Serv name')) g k r fits = refl
long_message version kernel name peer p (ObtainOk parent key (Sess service ident)) g k r fits = refl
long_message version kernel name peer p (ObtainNo place code) g k r fits = refl
long_message version kernel name peer p (DelegateReq parent (Mem base len rights) vpe sel) g k r fits = rw (
  value_is base (omega (arith, fits.1.0)),
  value_is len (omega (arith, fits.1.1)),
) refl
long_message version kernel name peer p (DelegateReq parent (Recv slots) vpe sel) g k r fits = refl
long_message version kernel name peer p (DelegateReq parent (Send gate label credits) vpe sel) g k r fits = refl
long_message version kernel name peer p (DelegateReq parent (Serv name') vpe sel) g k r fits = refl
long_message version kernel name peer p (DelegateReq parent (Sess service ident) vpe sel) g k r fits = refl
long_message version kernel name peer p (DelegatePrepared parent key) g k r fits = refl
long_message version kernel name peer p (DelegateNo parent code) g k r fits = refl
long_message version kernel name peer p (Ack key accepted) g k r fits = refl
long_message version kernel name peer p (Orphan parent key) g k r fits = refl
long_message version kernel name peer p (RevokeReq key job) g k r fits = refl
long_message version kernel name peer p (RevokeDone job) g k r fits = refl
long_message version kernel name peer p (Unlink parent key) g k r fits = refl

no_message : (a b c : List ℕ) (g : Option (KeyName × KeyName)) (k : Option KeyName) (r : Option Reply) →
    has_long_memory (a ∷ b ∷ c ∷ grant_words g ++ cut_words k ++ reply_words r) ≡ false
unfolding has_long_memory
no_message a b c (Some g) k r = refl
no_message a b c None (Some k) r = refl
no_message a b c None None (Some r) = refl
no_message a b c None None None = refl

long_event : (version kernels kernel : ℕ) (act : Act) (detail : Detail) (g : Option (KeyName × KeyName)) (k : Option KeyName) (r : Option Reply) →
    EventFits version kernels act detail →
    has_long_memory (decimal kernel ∷ act_words act ++ detail_words detail ++ grant_words g ++ cut_words k ++ reply_words r) ≡ carries_long detail
unfolding has_long_memory
long_event version kernels kernel (Calls v) (Called index call) g k r fits = rw (
  no_name index (codes "obtain-ok") (omega (arith, fits.1)) (omega arith),
  no_name index (codes "delegate-req") (omega (arith, fits.1)) (omega arith),
) refl
long_event version kernels kernel (Fetch from) (Carried peer message) g k r fits =
    long_message version (decimal kernel) (codes "fetch") (decimal peer) peer message g k r fits.2
long_event version kernels kernel Handle (Carried peer message) g k r fits =
    long_message version (decimal kernel) (codes "handle") (decimal peer) peer message g k r fits.1
long_event version kernels kernel (Upcall v) (Asked asker answer) g k r fits = rw (
  no_name asker (codes "obtain-ok") (small version asker fits.1) (omega arith),
  no_name asker (codes "delegate-req") (small version asker fits.1) (omega arith),
) refl
long_event version kernels kernel (Resume v) Nothing g k r fits = no_message (decimal kernel) (codes "resume") (decimal v) g k r
long_event version kernels kernel (Flush to) (Carried peer message) g k r fits =
    long_message version (decimal kernel) (codes "flush") (decimal peer) peer message g k r fits.2
long_event version kernels kernel (Kill v) Nothing g k r fits = no_message (decimal kernel) (codes "kill") (decimal v) g k r
long_event version kernels kernel act detail g k r fits = absurd fits

-- whether an entry carries such memory
pub long_entry : (version kernels : ℕ) (e : Entry) → EventFits version kernels e.event.act e.detail → has_long_memory (entry_words e) ≡ carries_long e.detail
long_entry version kernels e fits = long_event version kernels e.event.kernel e.event.act e.detail e.grant e.cut e.reply fits

-- the word with the length of the memory
place_message : (kernel name peer : List ℕ) (p : ℕ) (m : Message) (g : Option (KeyName × KeyName)) (k : Option KeyName) (r : Option Reply) →
    long_word (kernel ∷ name ∷ peer ∷ message_words m ++ grant_words g ++ cut_words k ++ reply_words r) ≡ length_word (Carried p m)
place_message kernel name peer p (ObtainReq place target) g k r = refl
place_message kernel name peer p (ObtainOk parent key object) g k r = refl
place_message kernel name peer p (ObtainNo place code) g k r = refl
place_message kernel name peer p (DelegateReq parent object vpe sel) g k r = refl
place_message kernel name peer p (DelegatePrepared parent key) g k r = refl
place_message kernel name peer p (DelegateNo parent code) g k r = refl
place_message kernel name peer p (Ack key accepted) g k r = refl
place_message kernel name peer p (Orphan parent key) g k r = refl
place_message kernel name peer p (RevokeReq key job) g k r = refl
place_message kernel name peer p (RevokeDone job) g k r = refl
place_message kernel name peer p (Unlink parent key) g k r = refl

place_event : (version kernels kernel peer : ℕ) (act : Act) (m : Message) (g : Option (KeyName × KeyName)) (k : Option KeyName) (r : Option Reply) →
    EventFits version kernels act (Carried peer m) →
    long_word (decimal kernel ∷ act_words act ++ detail_words (Carried peer m) ++ grant_words g ++ cut_words k ++ reply_words r) ≡ length_word (Carried peer m)
place_event version kernels kernel peer (Fetch from) m g k r fits = place_message (decimal kernel) (codes "fetch") (decimal peer) peer m g k r
place_event version kernels kernel peer Handle m g k r fits = place_message (decimal kernel) (codes "handle") (decimal peer) peer m g k r
place_event version kernels kernel peer (Flush to) m g k r fits = place_message (decimal kernel) (codes "flush") (decimal peer) peer m g k r
place_event version kernels kernel peer act m g k r fits = absurd fits

place_detail : (version kernels kernel : ℕ) (act : Act) (detail : Detail) (g : Option (KeyName × KeyName)) (k : Option KeyName) (r : Option Reply) →
    EventFits version kernels act detail → carries_long detail ≡ true →
    long_word (decimal kernel ∷ act_words act ++ detail_words detail ++ grant_words g ++ cut_words k ++ reply_words r) ≡ length_word detail
place_detail version kernels kernel act (Carried peer m) g k r fits long = place_event version kernels kernel peer act m g k r fits
place_detail version kernels kernel act (Called index call) g k r fits long = absurd (true≢false (sym long))
place_detail version kernels kernel act (Asked asker answer) g k r fits long = absurd (true≢false (sym long))
place_detail version kernels kernel act Nothing g k r fits long = absurd (true≢false (sym long))

pub place_entry : (version kernels : ℕ) (e : Entry) → EventFits version kernels e.event.act e.detail → carries_long e.detail ≡ true →
    long_word (entry_words e) ≡ length_word e.detail
place_entry version kernels e fits long =
    place_detail version kernels e.event.kernel e.event.act e.detail e.grant e.cut e.reply fits long
