-- What it is for a public function to be tied to its definition, and for a call to refuse as FORMAT, "Refusal numbers", says. The checker reads each
-- contract off the source into two plain claims: the function's `Reads.Asked`, of the arguments, and its `Reads.Post`, of the arguments, the reply and the
-- parameters at exit. All that is said here is said of these two.
use Rattle.std.specs.Prelude.{ℕ, ◌≡◌, true, List}
use Rattle.std.specs.Prelude as std
use Rattle.std.proofs.Math.Option.{Option, none, some}
use contract.Lifetimes.{Lfts}
use denote.Triple.Entry.{Args, Res}
use denote.Triple.Clauses.{Ended, AtExit}
use Rattle.base.specs.declared.Words.{Words}
use Rattle.base.specs.Refusal.{Causes, follows_paper, verdict}

-- ---- a function

-- of a signature: its lifetimes, and at these the arguments and the reply
abbrev pub Lifetimes : Ended → Type 0
Lifetimes T = Lfts T.signature.lifetimes

abbrev pub Arguments : (T : Ended) → Lifetimes T → Type 0
Arguments T = Args T.signature

abbrev pub Reply : (T : Ended) → Lifetimes T → Type 0
Reply T = Res T.signature

-- a contract over a signature: what a caller must show of the arguments, and what the function must show of them, the reply and the parameters at exit
abbrev pub Asks : Ended → Type 1
Asks T = (κs : Lifetimes T) → Arguments T κs → Type 0

abbrev pub Ensures : Ended → Type 1
Ensures T = (κs : Lifetimes T) → Arguments T κs → Reply T κs → AtExit T κs → Type 0

-- A public function: its signature and its contract, as they stand in the source; what its caller sees, in the reply and in the lent room at exit; and
-- what the definition says that this is, of the arguments alone.
pub record Function : Type 2 where
  pub type : Ended
  pub asks : Asks type
  pub ensures : Ensures type
  pub Seen : Lifetimes type → Type 0
  pub seen : (κs : Lifetimes type) → Reply type κs → AtExit type κs → Seen κs
  pub defined : (κs : Lifetimes type) → Arguments type κs → Seen κs

-- a function of which the caller sees the reply
abbrev pub replies : (T : Ended) → Asks T → Ensures T → ((κs : Lifetimes T) → Arguments T κs → Reply T κs) → Function
replies T asks ensures reply = record { type = T; asks = asks; ensures = ensures; Seen = Reply T; seen = λ κs x e. x; defined = reply }

-- a function of which the caller sees something else: the words of a part, a room, a reply and a room
abbrev pub shows : (T : Ended) → Asks T → Ensures T → (Seen : Type 0) → ((κs : Lifetimes T) → Reply T κs → AtExit T κs → Seen)
    → ((κs : Lifetimes T) → Arguments T κs → Seen) → Function
shows T asks ensures Seen seen defined = record { type = T; asks = asks; ensures = ensures; Seen = λ κs. Seen; seen = seen; defined = defined }

-- every input is accepted: nothing is asked of the caller
abbrev pub Accepting : Function → Type 0
Accepting f = (κs : Lifetimes f.type) (a : Arguments f.type κs) → f.asks κs a

-- whatever meets the contract is seen to be what the definition says
abbrev pub Tied : Function → Type 0
Tied f = (κs : Lifetimes f.type) (a : Arguments f.type κs) (x : Reply f.type κs) (e : AtExit f.type κs) → f.ensures κs a x e
    → f.seen κs x e ≡ f.defined κs a

-- two replies with their rooms that meet the contract, for the same arguments, are seen to be the same
abbrev pub Agree : Function → Type 0
Agree f = (κs : Lifetimes f.type) (a : Arguments f.type κs) (x y : Reply f.type κs) (e d : AtExit f.type κs) → f.ensures κs a x e
    → f.ensures κs a y d → f.seen κs x e ≡ f.seen κs y d

-- it accepts every input, its answer is the definition's, and there is no other
pub record Determined (f : Function) : Type 0 where
  pub accepting : Accepting f
  pub tied : Tied f
  pub agree : Agree f

-- ---- a call

-- What a call tells of its arguments: its answer, the causes for which it refuses them, its answer where it refuses with the number v, and where in an
-- answer the number stands, if it has one. A returned part and a returned array have none: another call gives it.
pub record Told (A : Type 0) : Type 0 where
  pub defined : A
  pub causes : Causes
  pub refused : ℕ → A
  pub number : Option (A → ℕ)

-- of a call that answers the number alone
abbrev pub number_alone : Causes → Told ℕ
number_alone cs = record { defined = verdict cs; causes = cs; refused = λ v. v; number = some λ x. x }

-- A call: a function that refuses some arguments.
pub record Call : Type 2 where
  pub function : Function
  pub causes : (κs : Lifetimes function.type) → Arguments function.type κs → Causes
  pub refused : (κs : Lifetimes function.type) → Arguments function.type κs → ℕ → function.Seen κs
  pub number : (κs : Lifetimes function.type) → Arguments function.type κs → Option (function.Seen κs → ℕ)

-- as for functions: a call of which the caller sees the reply, and one of which the caller sees something else
abbrev pub replies_or_refuses : (T : Ended) → Asks T → Ensures T → ((κs : Lifetimes T) → Arguments T κs → Told (Reply T κs)) → Call
replies_or_refuses T asks ensures told =
    record {
      function = replies T asks ensures λ κs a. (told κs a).defined;
      causes = λ κs a. (told κs a).causes;
      refused = λ κs a. (told κs a).refused;
      number = λ κs a. (told κs a).number;
    }

abbrev pub shows_or_refuses : (T : Ended) → Asks T → Ensures T → (Seen : Type 0) → ((κs : Lifetimes T) → Reply T κs → AtExit T κs → Seen)
    → ((κs : Lifetimes T) → Arguments T κs → Told Seen) → Call
shows_or_refuses T asks ensures Seen seen told =
    record {
      function = shows T asks ensures Seen seen λ κs a. (told κs a).defined;
      causes = λ κs a. (told κs a).causes;
      refused = λ κs a. (told κs a).refused;
      number = λ κs a. (told κs a).number;
    }

-- its causes stand in the order of FORMAT, "Refusal numbers"
abbrev pub Ordered : Call → Type 0
Ordered c = (κs : Lifetimes c.function.type) (a : Arguments c.function.type κs) → follows_paper (c.causes κs a) ≡ true

-- where the first cause that applies has a number, whatever meets the contract is seen to be the refusal of that number
abbrev pub Refusing : Call → Type 0
Refusing c = (κs : Lifetimes c.function.type) (a : Arguments c.function.type κs) (x : Reply c.function.type κs)
    (e : AtExit c.function.type κs) → c.function.ensures κs a x e → (verdict (c.causes κs a) ≡ 0 → ⊥)
    → c.function.seen κs x e ≡ c.refused κs a (verdict (c.causes κs a))

-- the number that stands in an answer, if one does, is v
abbrev pub HasNumber : {A : Type 0} → Option (A → ℕ) → A → ℕ → Type 0
HasNumber none x v = Unit {0}
HasNumber (some number) x v = number x ≡ v

-- the number in whatever meets the contract is that of the first cause that applies, and 0, which is accepted, where none does
abbrev pub Numbered : Call → Type 0
Numbered c = (κs : Lifetimes c.function.type) (a : Arguments c.function.type κs) (x : Reply c.function.type κs)
    (e : AtExit c.function.type κs) → c.function.ensures κs a x e
    → HasNumber (c.number κs a) (c.function.seen κs x e) (verdict (c.causes κs a))

-- what the first demand asks of a call
pub record Answers (c : Call) : Type 0 where
  pub determined : Determined c.function
  pub ordered : Ordered c
  pub refusing : Refusing c
  pub numbered : Numbered c

-- ---- a walk

-- A walk over a recording: the law of its `next`, of the walk before, what is given and the walk afterwards; the words, the sync word and the place of a walk;
-- what the definition finds by these; and the place past what is found.
pub record Walk : Type 1 where
  pub State : Type 0
  pub Item : Type 0
  pub gives : State → std.Option Item → State → Type 0
  pub words : State → List ℕ
  pub sync : State → ℕ
  pub at : State → Words
  pub found : ℕ → List ℕ → ℕ → std.Option Item
  pub past : Item → Words

-- what the definition finds from where the walk stands
abbrev pub ahead : (w : Walk) → w.State → std.Option w.Item
ahead w s = w.found (w.sync s) (w.words s) (w.at s).0

-- where a walk goes on: past what was found
abbrev pub goes_on : {A : Type 0} → (A → Words) → Words → std.Option A → Words
goes_on past at std.None = at
goes_on past at (std.Some x) = past x

-- a turn gives what the definition finds, and the walk goes on past it, over the same words, by the same sync word
pub record Turn (w : Walk) (s : w.State) (r : std.Option w.Item) (t : w.State) : Type 0 where
  pub found : r ≡ ahead w s
  pub words : w.words t ≡ w.words s
  pub sync : w.sync t ≡ w.sync s
  pub at : w.at t ≡ goes_on w.past (w.at s) (ahead w s)

abbrev pub Turned : Walk → Type 0
Turned w = (s : w.State) (r : std.Option w.Item) (t : w.State) → w.gives s r t → Turn w s r t
