-- What a reader may rely on of an image's run under a ration: document 02, Wish 2.
use Rattle.std.specs.Prelude.{ℕ, zero, suc, ◌+◌, ◌*◌, ◌≤◌, ◌<◌, true, false, ◌≡◌, ◌↔◌, List, length}
use Rattle.std.proofs.Math.Option.{some, none as nothing}
use Rattle.language.specs.Term.{rules, images, Term, Terms, Arms, var, kvar, fun, call, bind, con, cases, num, op, nil, cons, none, arm}
use Rattle.language.specs.Setting.{Setting}
use Rattle.language.specs.Words.{words}
use Rattle.language.specs.Scope.{Scoped}
use Rattle.language.specs.Limits.{Ranged}
use Rattle.language.specs.Run.{Value, both, Gives, Run, count}
use Rattle.language.specs.Image.{image, carried}
use Rattle.language.specs.Read.{read, accepted}
use Rattle.trust.specs.Promises.{Fit}
use Rattle.meaning.specs.Promises.{applications}
use Rattle.ticks.specs.Upto.{Next, a_call, rule_none, Upto, used}
use Rattle.ticks.specs.Flat.{Flat}
use Rattle.ticks.specs.Value.{holds}
use Rattle.ticks.specs.Tick.{Closure, Closures, c_con, c_nil, c_cons, as_term, as_terms, sizeᶜ, revᶜ, value, values, takes, takesᵗ}
use Rattle.ticks.specs.Tick.{End, comes, stuck, goes, ends, after, whole, apply, operated, sole, handed, turn, turnᵃ}
use Rattle.ticks.specs.Tick.{finished, out_of_ration, no_rule, no_record, spend, next, tick_from, tick}

-- `ComesIn t v n`: the image t comes to v by n calls: "a call there is one application"
pub record ComesIn (t v : Term) (n : ℕ) : Type 0 where
  pub run : Run images t v
  pub in_calls : (count run).calls ≡ n

-- `Reaches t s n`: the run of the image t makes n calls up to a point, and there s comes next
pub record Reaches (t : Term) (s : Next) (n : ℕ) : Type 0 where
  pub point : Upto images t s
  pub in_calls : (used point).calls ≡ n

-- what `tick` is said of: a closed flat image
pub record Runnable (t : Term) : Type 0 where
  pub closed : Scoped images 0 0 t
  pub flat : Flat t

-- the image of every term is flat, and that of a closed rule is closed
abbrev pub ImagesAreFlat : Type 0
ImagesAreFlat = (t : Term) → Flat (image t)

abbrev pub ImagesAreRunnable : Type 0
ImagesAreRunnable = (t : Term) → Scoped rules 0 0 t → Runnable (image t)

-- an operation on closures gives what it gives on the terms that they stand for: document 02, Wish 13, "An operation on anything but numbers has no
-- value"
abbrev pub OperatesAsDefined : Type 0
OperatesAsDefined = (o : ℕ) (cs : Closures) (v : Term) → Gives o (as_terms cs) v ↔ ((c : Closure) × (operated o cs ≡ some c) × (as_term c ≡ v))

-- the records that the run of t takes, up to its end or to where r applications are made and one more is to come
unfoldable pub needs : ℕ → End → ℕ
unfolding after turn
needs zero e = 0
needs (suc r) (comes c) = 0
needs (suc r) stuck = 0
needs (suc r) (goes n ks xs b) = let s = after n (turn b ks xs) in s.records + needs r s.end

unfoldable pub needed : ℕ → Term → ℕ
unfolding needs turn
needed r t = let s = turn t c_nil c_nil in s.records + needs r s.end

-- `Finished r l t v n`: under the ration r in l records the run of t finishes with a value that stands for v and n applications used
pub record Finished (r l : ℕ) (t v : Term) (n : ℕ) : Type 0 where
  pub value : Closure
  pub stands : as_term value ≡ v
  pub is : tick r l t ≡ finished value n

-- finished, exactly when the definition comes to that value with that number of calls, the ration is at least that number, and the records are
-- at least those that the run takes
abbrev pub FinishedExactly : Type 0
FinishedExactly = (t v : Term) (r l n : ℕ) → Runnable t → Finished r l t v n ↔ (ComesIn t v n × (n ≤ r) × (needed n t ≤ l))

-- out of ration, exactly when the definition makes as many calls as the ration is and a call comes next, and there are records for all up to there:
-- "That number equals the applications the definition makes up to that point"
abbrev pub OutOfRationExactly : Type 0
OutOfRationExactly = (t : Term) (r l u : ℕ) → Runnable t → (tick r l t ≡ out_of_ration u) ↔ ((u ≡ r) × Reaches t a_call r × (needed r t ≤ l))

-- 14, exactly when the definition comes to a point at which no rule applies, within the ration, and there are records for all up to there
abbrev pub NoRuleExactly : Type 0
NoRuleExactly = (t : Term) (r l : ℕ) → Runnable t → (tick r l t ≡ no_rule) ↔ ((n : ℕ) × Reaches t rule_none n × (n ≤ r) × (needed n t ≤ l))

-- 13, exactly when the run takes more records than there are. By these four every reply is known from the definition's run and `needed`
abbrev pub NoRecordExactly : Type 0
NoRecordExactly = (t : Term) (r l : ℕ) → (tick r l t ≡ no_record) ↔ (l < needed r t)

-- where no rule applies there is no value
abbrev pub NoRuleNoValue : Type 0
NoRuleNoValue = (t v : Term) (n : ℕ) → Reaches t rule_none n → Run images t v → ⊥

-- "a ration of at least demand 3's count never runs out"
abbrev pub NeverRunsOut : Type 0
NeverRunsOut = (t v : Term) (r l n u : ℕ) → Runnable t → ComesIn t v n → n ≤ r → tick r l t ≡ out_of_ration u → ⊥

-- and a smaller one does: the count is the least ration
abbrev pub RunsOutBelow : Type 0
RunsOutBelow = (t v : Term) (r l n : ℕ) → Runnable t → ComesIn t v n → r < n → needed r t ≤ l → tick r l t ≡ out_of_ration r

-- "A larger ration never alters a finished reply", and alters none but out of ration; more records alter none but 13
abbrev pub LargerRation : Type 0
LargerRation = (t : Term) (r r' l : ℕ) → r ≤ r' → ((u : ℕ) → tick r l t ≡ out_of_ration u → ⊥) → tick r' l t ≡ tick r l t

abbrev pub MoreRecords : Type 0
MoreRecords = (t : Term) (r l l' : ℕ) → l ≤ l' → (tick r l t ≡ no_record → ⊥) → tick r l' t ≡ tick r l t

abbrev pub FinishedStays : Type 0
FinishedStays = (t : Term) (r r' l l' n : ℕ) (c : Closure) → r ≤ r' → l ≤ l' → tick r l t ≡ finished c n → tick r' l' t ≡ finished c n

-- The same of rules, by demand 3 and its other half (document 02, Wish 10): an accepted rule that comes to a value finishes in the tick with that
-- value's carried form and demand 3's number of applications, given that ration and the records that this run takes
abbrev pub RuleFinishes : Type 0
RuleFinishes = (S : Setting) (ws : List ℕ) (t v : Term) (r l : ℕ) → read S ws ≡ accepted t → (x : Run rules t v)
    → applications (count x) ≤ r → needed (applications (count x)) (image t) ≤ l → Finished r l (image t) (carried v) (applications (count x))

-- and what finishes in the tick is the carried form of the rule's value, with demand 3's number
abbrev pub FinishedIsRule : Type 0
FinishedIsRule = (S : Setting) (ws : List ℕ) (t w : Term) (r l n : ℕ) → read S ws ≡ accepted t → Finished r l (image t) w n
    → (v : Term) × (w ≡ carried v) × (x : Run rules t v) × (applications (count x) ≡ n)

-- 14 is never the reply to a rule that comes to a value, and out of ration never where the ration is at least demand 3's number
abbrev pub NoRuleNoDecision : Type 0
NoRuleNoDecision = (S : Setting) (ws : List ℕ) (t v : Term) (r l : ℕ) → read S ws ≡ accepted t → tick r l (image t) ≡ no_rule → Run rules t v → ⊥

abbrev pub RuleNeverRunsOut : Type 0
RuleNeverRunsOut = (S : Setting) (ws : List ℕ) (t v : Term) (r l u : ℕ) → read S ws ≡ accepted t → (x : Run rules t v) → applications (count x) ≤ r
    → tick r l (image t) ≡ out_of_ration u → ⊥

-- What finishes is a value, and closed: document 01, "A closed atom is a value"
abbrev pub ClosedValue : Type 0
ClosedValue = (t v : Term) (r l n : ℕ) → Runnable t → Finished r l t v n → Value v × Scoped images 0 0 v

-- "15 (holds a function)" can be told of the rule's value or of what the tick finishes with: the carried form of a value holds a function exactly
-- where the value does; and a value that holds none is its own carried form: document 01, "A constructor keeps its two words and takes the carried
-- form of each argument"; a number's is itself
pub record PlainIsCarried : Type 0 where
  pub holds_same : (v : Term) → Value v → holds (carried v) ≡ holds v
  pub itself : (v : Term) → Value v → holds v ≡ false → carried v ≡ v

-- so an accepted rule that comes to a value without functions finishes with that value: no 15 can follow ("on a finished value", Wish 2)
abbrev pub PlainFinishes : Type 0
PlainFinishes = (S : Setting) (ws : List ℕ) (t v : Term) (r l : ℕ) → read S ws ≡ accepted t → (x : Run rules t v) → holds v ≡ false
    → applications (count x) ≤ r → needed (applications (count x)) (image t) ≤ l → Finished r l (image t) v (applications (count x))

-- and what finishes without functions is the rule's value (the other half of demand 3: Wish 10)
abbrev pub PlainIsRule : Type 0
PlainIsRule = (S : Setting) (ws : List ℕ) (t v : Term) (r l n : ℕ) → read S ws ≡ accepted t → Finished r l (image t) v n → holds v ≡ false
    → (x : Run rules t v) × (applications (count x) ≡ n)

-- a bound on the records that can be read off the image: what its functions, constructors, numbers and operations take, and what its functions, lets
-- and arms bind, each once
unfoldable mutual
  pub weight : Term → ℕ
  weight (var i) = 0
  weight (kvar i) = 0
  weight (fun o a b) = 1 + (1 + a + o + weight b)
  weight (call f ps) = weight f + weightᵗ ps
  weight (bind m b) = weight m + (1 + weight b)
  weight (con t ps) = 1 + weightᵗ ps
  weight (cases m ps) = weight m + weightᵃ ps
  weight (num n) = 1
  weight (op o ps) = 1 + weightᵗ ps

  pub weightᵗ : Terms → ℕ
  weightᵗ nil = 0
  weightᵗ (cons t ts) = weight t + weightᵗ ts

  pub weightᵃ : Arms → ℕ
  weightᵃ none = 0
  weightᵃ (arm t n b ps) = (n + weight b) + weightᵃ ps

-- so many records are enough for r applications: then 13 ("no record left") is not the reply
abbrev pub EnoughRecords : Type 0
EnoughRecords = (t : Term) (r : ℕ) → needed r t ≤ (r + 1) * weight t

-- In words, to size the buffer by: for each word of a rule's image at most so many records are taken, for each application and once more. A recursive
-- function of fifteen arguments takes eighteen, in no fewer than six words
abbrev pub records_per_word : ℕ
records_per_word = 4

abbrev pub WeightInWords : Type 0
WeightInWords = (t : Term) → Ranged rules t → weight (image t) ≤ records_per_word * length (words images (image t))

abbrev pub EnoughRecordsInWords : Type 0
EnoughRecordsInWords = (S : Setting) (ws : List ℕ) (t : Term) (r : ℕ) → Fit ws → read S ws ≡ accepted t
    → needed r (image t) ≤ (r + 1) * (records_per_word * length (words images (image t)))

-- so an accepted rule that comes to a value finishes, given demand 3's number as ration and so many records
abbrev pub EnoughFinishes : Type 0
EnoughFinishes = (S : Setting) (ws : List ℕ) (t v : Term) (r l : ℕ) → Fit ws → read S ws ≡ accepted t → (x : Run rules t v)
    → applications (count x) ≤ r
    → (applications (count x) + 1) * (records_per_word * length (words images (image t))) ≤ l
    → Finished r l (image t) (carried v) (applications (count x))

-- The same run, one use of a rule at a time, with 13 tested wherever records are taken: a value; a let; a match, with an arm that is taken and one
-- that is not, and without any; a call of atoms; a call that is handed an operation: its parts take their records, then 14 is the reply where it has no
-- value, then it takes its one record, and then it is the call's argument; and a call that is made
pub record InOrder (r u l : ℕ) (ks xs : Closures) : Type 0 where
  pub at_value : (t : Term) → tick_from r u l (whole t ks xs) ≡ spend (takes t) l (λ l'. finished (value t ks xs) u)
  pub at_let : (m b : Term) → tick_from r u l (turn (bind m b) ks xs)
      ≡ spend (takes m) l (λ l'. spend 1 l' (λ l''. tick_from r u l'' (turn b ks (c_cons (value m ks xs) xs))))
  pub at_match : (m : Term) (ps : Arms) → tick_from r u l (turn (cases m ps) ks xs)
      ≡ spend (takes m) l (λ l'. tick_from r u l' (turnᵃ ps ks xs (value m ks xs)))
  pub at_an_arm : (t n t' : ℕ) (b : Term) (ps : Arms) (cs : Closures) → both t' (sizeᶜ cs) t n ≡ true
      → tick_from r u l (turnᵃ (arm t n b ps) ks xs (c_con t' cs)) ≡ spend n l (λ l'. tick_from r u l' (turn b ks (revᶜ cs xs)))
  pub past_arm : (t n t' : ℕ) (b : Term) (ps : Arms) (cs : Closures) → both t' (sizeᶜ cs) t n ≡ false
      → tick_from r u l (turnᵃ (arm t n b ps) ks xs (c_con t' cs)) ≡ tick_from r u l (turnᵃ ps ks xs (c_con t' cs))
  pub at_stuck : tick_from r u l (ends stuck) ≡ no_rule
  pub at_call : (f : Term) (ps : Terms) → sole ps ≡ nothing → tick_from r u l (turn (call f ps) ks xs)
      ≡ spend (takes f) l (λ l'. spend (takesᵗ ps) l' (λ l''. next r u l'' (apply (value f ks xs) (values ps ks xs))))
  pub at_operation : (f : Term) (o : ℕ) (ps : Terms) → tick_from r u l (turn (call f (cons (op o ps) nil)) ks xs)
      ≡ spend (takes f) l (λ l'. spend (takesᵗ ps) l' (λ l''. tick_from r u l'' (handed (value f ks xs) (operated o (values ps ks xs)))))
  pub no_operation : (c : Closure) → tick_from r u l (handed c nothing) ≡ no_rule
  pub past_operation : (c v : Closure) → tick_from r u l (handed c (some v)) ≡ spend 1 l (λ l'. next r u l' (apply c (c_cons v c_nil)))
  pub past_call : (n : ℕ) (b : Term) → next (suc r) u l (goes n ks xs b) ≡ spend n l (λ l'. tick_from r (suc u) l' (turn b ks xs))

abbrev pub AlwaysInOrder : Type 0
AlwaysInOrder = (r u l : ℕ) (ks xs : Closures) → InOrder r u l ks xs
