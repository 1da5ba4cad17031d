-- What a reader may rely on of an image's run: document 01, "The image" and "How a rule runs"; demand 3; document 02, Wish 10.
use Rattle.std.specs.Prelude.{ℕ, ◌+◌, ◌*◌, ◌≤◌, ◌≡◌, ◌↔◌, List, length}
use Rattle.language.specs.Term.{Lang, rules, images, Term, Terms, con, num, nil, cons}
use Rattle.language.specs.Setting.{Setting}
use Rattle.language.specs.Words.{words}
use Rattle.language.specs.Scope.{Scoped}
use Rattle.language.specs.Run.{Value, Counts, Run, count}
use Rattle.language.specs.Image.{image, carried}
use Rattle.language.specs.Read.{read, accepted}

-- the applications that an image makes for a rule's run with these counts: two for each value taken whole, each call and each constructor
-- built from unfinished parts, among which an operation counts, and one for each let and each match. "a call there is one application."
abbrev pub applications : Counts → ℕ
applications c = 2 * (c.values + c.calls + c.builds) + c.lets + c.matches

-- `Comes t w n l m`: the image t comes to w by n calls, l lets and m matches
pub record Comes (t w : Term) (n l m : ℕ) : Type 0 where
  pub run : Run images t w
  pub in_calls : (count run).calls ≡ n
  pub in_lets : (count run).lets ≡ l
  pub in_matches : (count run).matches ≡ m

-- a value that holds no function: a constructor whose arguments hold none, or a number
mutual
  pub data Plain : Term → Type 0 where
    p_con : {t : ℕ} {ps : Terms} → Plainᵗ ps → Plain (con t ps)
    p_num : {n : ℕ} → Plain (num n)

  pub data Plainᵗ : Terms → Type 0 where
    p_nil : Plainᵗ nil
    p_cons : {t : Term} {ts : Terms} → Plain t → Plainᵗ ts → Plainᵗ (cons t ts)

-- a value that holds no function is its own carried form: "A constructor keeps its two words and takes the carried form of each argument."
abbrev pub PlainIsCarried : Type 0
PlainIsCarried = (v : Term) → Plain v → carried v ≡ v

-- two runs of one term, in either language, come to the same value with the same five counts: so that "the number" is one
abbrev pub RunsAreDetermined : Type 0
RunsAreDetermined = (L : Lang) (t v w : Term) (r : Run L t v) (s : Run L t w) → (v ≡ w) × (count r ≡ count s)

-- what demand 3 says of a rule t that came to v with the counts c.
-- comes: "A run of it ends in the carried form of the rule's value", with as many lets and matches, and with the sum's applications.
-- plainly: a value that holds no function is given as it is. always: so does every run of the image.
pub record Kept (t v : Term) (c : Counts) : Type 0 where
  pub comes : Comes (image t) (carried v) (applications c) c.lets c.matches
  pub plainly : Plain v → Comes (image t) v (applications c) c.lets c.matches
  pub always : (w : Term) (s : Run images (image t) w) → (w ≡ carried v) × (count s ≡ count comes.run)

-- demand 3 of terms: for every closed term and each of its runs
abbrev pub Demand3 : Type 0
Demand3 = (t v : Term) → Scoped rules 0 0 t → (r : Run rules t v) → Kept t v (count r)

-- demand 3 of words: for every sequence of words that is accepted as a rule
abbrev pub Demand3OfWords : Type 0
Demand3OfWords = (S : Setting) (ws : List ℕ) (t v : Term) → read S ws ≡ accepted t → (r : Run rules t v) → Kept t v (count r)

-- `Finishes t v n l m`: the rule t comes to v, and demand 3's numbers for that run are n applications, l lets and m matches
pub record Finishes (t v : Term) (n l m : ℕ) : Type 0 where
  pub run : Run rules t v
  pub in_calls : applications (count run) ≡ n
  pub in_lets : (count run).lets ≡ l
  pub in_matches : (count run).matches ≡ m

-- w is the carried form of a value that the rule t comes to, with these numbers
abbrev pub FromRule : Term → Term → ℕ → ℕ → ℕ → Type 0
FromRule t w n l m = (v : Term) × (w ≡ carried v) × Finishes t v n l m

-- document 02, Wish 10, of terms: "if the image .. comes to a value, then the rule does, and the image's value is the carried form of the rule's";
-- and the image's numbers are demand 3's of the rule's run
abbrev pub Converse : Type 0
Converse = (t w : Term) (n l m : ℕ) → Scoped rules 0 0 t → Comes (image t) w n l m → FromRule t w n l m

-- Wish 10 of words: "the image of an accepted rule"
abbrev pub ConverseOfWords : Type 0
ConverseOfWords = (S : Setting) (ws : List ℕ) (t w : Term) (n l m : ℕ) → read S ws ≡ accepted t → Comes (image t) w n l m → FromRule t w n l m

-- demand 3 and its other half in one: an accepted rule comes to the value v with demand 3's numbers exactly when its image comes to v's carried form
-- with these numbers
abbrev pub ExactlyWhen : Type 0
ExactlyWhen =
    (S : Setting) (ws : List ℕ) (t v : Term) (n l m : ℕ) → read S ws ≡ accepted t → Value v → Finishes t v n l m ↔ Comes (image t) (carried v) n l m

-- "So a controller can't report a decision for a rule that the bench finds stuck or endless": an accepted rule that comes to no value has an
-- image that comes to none
abbrev pub NoDecision : Type 0
NoDecision =
    (S : Setting) (ws : List ℕ) (t : Term) → read S ws ≡ accepted t → ((v : Term) → Run rules t v → ⊥) → (w : Term) → Run images (image t) w → ⊥

-- "Its length in words, for a rule of w words, is at most 7w."
abbrev pub SevenTimesOfWords : Type 0
SevenTimesOfWords = (S : Setting) (ws : List ℕ) (t : Term) → read S ws ≡ accepted t → length (words images (image t)) ≤ 7 * length ws
