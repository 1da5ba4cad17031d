-- A refusal's place helps its reader: 11, 1 and 2 carry none, 3 carries the number of words, 4 to 8 the place of a word given, and such a refusal is
-- decided by the words up to and including that one. By induction on the levels of depth left, over two tables whose first k words agree: reading
-- goes forward only, so that what it comes to within the first k words of the one it comes to in the other.
-- Assumes nothing.
use Prim.Native.Nat.{ℕ, zero, suc, ◌+◌, ◌*◌, ◌%◌, ◌<◌, ◌≤◌}
use mathlib.Core.Path.{◌≡◌, refl, ap, ◌∙◌}
use mathlib.Core.Bool.{Bool, true, false, cond}
use mathlib.Core.List.{List, [], ◌∷◌, ◌++◌}
use native.Mathlib.Omega.{arith}
use lib.Dec.{ltb, leb, eqb}
use lib.ListN.{length, get_or, take, length-append, get_or-append}
use lib.Seq.{length-take-le, get_or-take}
use borrow.Author.Tests.{lt-ltb, le-ltb, ne_eqb, ltb-true, ltb-false}
use Rattle.language.specs.Term.{Term, var, fun, call, bind, con, cases, num, op, nil, cons, none, arm}
use Rattle.language.specs.Setting.{Setting}
use Rattle.language.specs.Kinds.{most_arguments, operands, known, at_term, at_arm, row_of, allowed, tested, Head, Refused, Opens, head_of}
use Rattle.language.specs.Words.{word_end}
use Rattle.language.specs.Limits.{deepest, most_words}
use Rattle.language.specs.Dead.{dead}
use Rattle.language.specs.Read.{no_place, Got, found, fault, then, made, word, headed, second, number, many, unlike, arms_of, opened, term, refused, reading, closed, ended, read}
use Rattle.language.specs.declared.Parts.{Parts}
use Rattle.language.specs.declared.Parts.TheVariants.{Nothing, Body, FunctionAndArguments, BoundAndBody, CountAndArguments, SubjectAndArms, ArityAndBody, HighAndLow, TwoParts}
use Rattle.language.specs.declared.Row.{Row}
use Rattle.language.proofs.Clash.{never}
use Rattle.trust.specs.Promises.{OfWord, of_rule, of_dead_arm, Placed, of_version, of_length, of_end, of_word, PlacesHelp}

-- what a fault tells that is met in reading the words s: none is left, or the word at its place is refused
data Told (s : List ℕ) : ℕ → ℕ → Type 0 where
  ends : Told s 3 (length s)
  tests : {e p : ℕ} → OfWord e → p < length s → Told s e p

data Tells (s : List ℕ) {A : Type 0} : Got A → Type 0 where
  finds : {a : A} {to : ℕ} → Tells s (found a to)
  faults : {e p : ℕ} → Told s e p → Tells s (fault e p)

-- what reading comes to is settled by the first k words
data Settled (k : ℕ) {A : Type 0} : Got A → Type 0 where
  by_end : {a : A} {to : ℕ} → to ≤ k → Settled k (found a to)
  by_fault : {e p : ℕ} → 4 ≤ e → p < k → Settled k (fault e p)

-- of readings g and h of two tables, s the first: where g is settled by the first k words, these reach to `at` at least, and h is the same
record Alike (s : List ℕ) (k at : ℕ) {A : Type 0} (g h : Got A) : Type 0 where
  tells : Tells s g
  same : Settled k g → (at ≤ k) × (h ≡ g)

-- a refusal that tests a word is none of those before
pub past_three : {e : ℕ} → OfWord e → 4 ≤ e
past_three (of_rule l m) = l
past_three of_dead_arm = omega arith

-- a head is refused by 4 or 5
head_told : (v q w : ℕ) {e : ℕ} → head_of v q w ≡ Refused e → OfWord e
unfolding head_of tested
head_told v q w {e} h = go (allowed r v q) (ltb (w % 256) r.low) (ltb r.high (w % 256)) h
  where
    r : Row
    r = row_of w

    go : (a b c : Bool) → cond a (cond b (Refused 5) (cond c (Refused 5) (Opens r))) (Refused 4) ≡ Refused e → OfWord e
    go true true c k = let z : ◌≡◌ {A = ℕ} 5 e = cc in of_rule {e = e} (omega arith) (omega arith)
    go true false true k = let z : ◌≡◌ {A = ℕ} 5 e = cc in of_rule {e = e} (omega arith) (omega arith)
    go true false false k = never cc
    go false b c k = let z : ◌≡◌ {A = ℕ} 4 e = cc in of_rule {e = e} (omega arith) (omega arith)

-- an arm's second word and its three tests
unlike_word : (s : List ℕ) (before : List (ℕ × ℕ)) (t at : ℕ)
    → unlike s before t at ≡ word s at (λ m. cond (leb m most_arguments) (cond (dead t m before) (fault 18 at) (found m (at + 1))) (fault 5 at))
unfolding unlike second then
unlike_word s before t at = go (ltb at (length s)) (leb (get_or s at 0) most_arguments)
  where
    rest : ℕ → ℕ → Got ℕ
    rest m to = cond (dead t m before) (fault 18 at) (found m to)

    go : (b c : Bool) → then (cond b (cond c (found (get_or s at 0) (at + 1)) (fault 5 at)) (fault 3 (length s))) rest
        ≡ cond b (cond c (rest (get_or s at 0) (at + 1)) (fault 5 at)) (fault 3 (length s))
    go true true = refl
    go true false = refl
    go false c = refl

module _ (s u : List ℕ) (k : ℕ) (agree : (i : ℕ) → i < k → i < length s → (i < length u) × (get_or u i 0 ≡ get_or s i 0)) where
  found_alike : {A : Type 0} {at to : ℕ} (a : A) → at ≤ to → Alike s k at (found a to) (found a to)
  found_alike {A} {at} {to} a l = record { tells = finds; same = go }
    where
      go : Settled k (found a to) → (at ≤ k) × (◌≡◌ {A = Got A} (found a to) (found a to))
      go (by_end m) = (omega arith, refl)

  fault_alike : {A : Type 0} {e at p : ℕ} → OfWord e → p < length s → at ≤ p + 1 → Alike s k at {A = A} (fault e p) (fault e p)
  fault_alike {A} {e} {at} {p} l m n = record { tells = faults (tests l m); same = go }
    where
      go : Settled k {A = A} (fault e p) → (at ≤ k) × (◌≡◌ {A = Got A} (fault e p) (fault e p))
      go (by_fault l m) = (omega arith, refl)

  from : {A : Type 0} {at to : ℕ} {g h : Got A} → at ≤ to → Alike s k to g h → Alike s k at g h
  from l x = record { tells = x.tells; same = λ d. let y = x.same d in (omega (arith, y.0), y.1) }

  -- a fault of a part is the whole's
  passed_on : {A B : Type 0} {at e p : ℕ} {h : Got A} {h' : Got B} → Alike s k at {A = A} (fault e p) h → (h ≡ fault e p → h' ≡ fault e p)
      → Alike s k at {A = B} (fault e p) h'
  passed_on {A} {B} {at} {e} {p} {h} {h'} x f = record { tells = go x.tells; same = done }
    where
      go : Tells s {A = A} (fault e p) → Tells s {A = B} (fault e p)
      go (faults t) = faults t

      done : Settled k {A = B} (fault e p) → (at ≤ k) × (h' ≡ fault e p)
      done (by_fault l m) = let w = x.same (by_fault l m) in (w.0, f w.1)

  then_alike : {A B : Type 0} {at : ℕ} (g : Got A) {h : Got A} {f f' : A → ℕ → Got B} → Alike s k at g h
      → ((a : A) (to : ℕ) → Alike s k to (f a to) (f' a to)) → Alike s k at (then g f) (then h f')
  unfolding then
  then_alike (found a to) x y = record {
    tells = (y a to).tells;
    same = λ d. let z = (y a to).same d in let w = x.same (by_end z.0) in (w.0, rw w.1 z.1);
  }
  then_alike (fault e p) x y = passed_on x (λ w. rw w)

  made_alike : {A B : Type 0} {at : ℕ} (g : Got A) {h : Got A} (f : A → B) → Alike s k at g h → Alike s k at (made f g) (made f h)
  unfolding made
  made_alike {B} {at} (found a to) {h} f x = record { tells = finds; same = go }
    where
      go : Settled k (found (f a) to) → (at ≤ k) × (made f h ≡ found (f a) to)
      go (by_end l) = let w = x.same (by_end l) in (w.0, rw w.1)
  made_alike (fault e p) f x = passed_on x (λ w. rw w)

  test_alike : {A : Type 0} {at : ℕ} (b : Bool) {g h g' h' : Got A} → Alike s k at g h → Alike s k at g' h' → Alike s k at (cond b g g') (cond b h h')
  test_alike true x y = x
  test_alike false x y = y

  -- the word at a place, which the two tables share where it is among the first k
  word_alike : {A : Type 0} (at : ℕ) {f f' : ℕ → Got A} → ((w : ℕ) → at < length s → Alike s k (at + 1) (f w) (f' w))
      → Alike s k (at + 1) (word s at f) (word u at f')
  word_alike {A} at {f} {f'} h = go (ltb at (length s)) refl
    where
      there : at < length s → Settled k (f (get_or s at 0)) → (at + 1 ≤ k) × (word u at f' ≡ f (get_or s at 0))
      there l d =
          let y = (h (get_or s at 0) l).same d in
          let a = agree at (omega (arith, y.0)) l in
          (y.0, simp (lt-ltb at (length u) a.0, a.1) y.1)

      gone : Settled k {A = A} (fault 3 (length s)) → (at + 1 ≤ k) × (word u at f' ≡ fault 3 (length s))
      gone (by_fault l m) = absurd (omega arith)

      go : (b : Bool) → ltb at (length s) ≡ b → Alike s k (at + 1) (cond b (f (get_or s at 0)) (fault 3 (length s))) (word u at f')
      go true e = let l = ltb-true at (length s) e in record { tells = (h (get_or s at 0) l).tells; same = there l }
      go false e = record { tells = faults ends; same = gone }

  head_alike : {A : Type 0} (v q w at : ℕ) {f f' : Row → Got A} → at < length s → ((r : Row) → Alike s k (at + 1) (f r) (f' r))
      → Alike s k (at + 1) (headed (head_of v q w) at f) (headed (head_of v q w) at f')
  head_alike v q w at {f} {f'} l x = go (head_of v q w) refl
    where
      go : (o : Head) → head_of v q w ≡ o → Alike s k (at + 1) (headed o at f) (headed o at f')
      go (Refused e) i = fault_alike (head_told v q w i) l (omega arith)
      go (Opens r) i = x r

  second_alike : (at : ℕ) → Alike s k (at + 1) (second s at) (second u at)
  unfolding second
  second_alike at = word_alike at (λ w l. test_alike (leb w most_arguments) (found_alike {to = at + 1} w (omega arith))
      (fault_alike (of_rule {e = 5} (omega arith) (omega arith)) l (omega arith)))

  unlike_alike : (before : List (ℕ × ℕ)) (t at : ℕ) → Alike s k (at + 1) (unlike s before t at) (unlike u before t at)
  unlike_alike before t at = rw (unlike_word s before t at, unlike_word u before t at) (word_alike at (λ w l. test_alike (leb w most_arguments)
      (test_alike (dead t w before) (fault_alike of_dead_arm l (omega arith)) (found_alike {to = at + 1} w (omega arith)))
      (fault_alike (of_rule {e = 5} (omega arith) (omega arith)) l (omega arith))))

  number_alike : (at : ℕ) → Alike s k (at + 1) (number s at) (number u at)
  unfolding number
  number_alike at = word_alike at (λ h l. from (omega arith) (word_alike (at + 1) (λ w m. found_alike {to = at + 1 + 1} (h * word_end + w) (omega arith))))

  -- the readers of lists, arms and forms, where p and p' read their terms in the two tables
  module _ (S : Setting) (p p' : ℕ → ℕ → Got Term) (alike : (n at : ℕ) → Alike s k (at + 1) (p n at) (p' n at)) where
    next : (n at : ℕ) → Alike s k at (p n at) (p' n at)
    next n at = from (omega arith) (alike n at)

    many_alike : (n c at : ℕ) → Alike s k at (many (p n) c at) (many (p' n) c at)
    unfolding many
    many_alike n zero at = found_alike nil (omega arith)
    many_alike n (suc c) at = then_alike (p n at) (next n at) (λ t to. made_alike (many (p n) c to) (cons t) (many_alike n c to))

    arms_alike : (before : List (ℕ × ℕ)) (n c at : ℕ) → Alike s k at (arms_of S s p before n c at) (arms_of S u p' before n c at)
    unfolding arms_of
    arms_alike before n zero at = found_alike none (omega arith)
    arms_alike before n (suc c) at = from (omega arith) (word_alike at (λ w l. head_alike S.version at_arm w at l (λ r.
        then_alike (unlike s before (w % 256) (at + 1)) (from (omega arith) (unlike_alike before (w % 256) (at + 1)))
        (λ m to. then_alike (p (n + m) to) (next (n + m) to) (λ b past.
        let more = before ++ ((w % 256, m) ∷ []) in
        made_alike (arms_of S s p more n c past) (arm (w % 256) m b) (arms_alike more n c past))))))

    opened_alike : (n at a o : ℕ) (f : Parts) → at < length s → Alike s k (at + 1) (opened S s p n at a o f) (opened S u p' n at a o f)
    unfolding opened
    opened_alike n at a o Nothing l =
        test_alike (ltb a n) (found_alike (var a) (omega arith)) (fault_alike (of_rule {e = 7} (omega arith) (omega arith)) l (omega arith))
    opened_alike n at a o Body l = made_alike (p (n + a + o) (at + 1)) (fun o a) (next _ _)
    opened_alike n at a o FunctionAndArguments l =
        then_alike (p n (at + 1)) (next _ _) (λ f to. made_alike (many (p n) a to) (call f) (many_alike n a to))
    opened_alike n at a o BoundAndBody l = then_alike (p n (at + 1)) (next _ _) (λ m to. made_alike (p (n + o) to) (bind m) (next _ _))
    opened_alike n at a o CountAndArguments l =
        then_alike (second s (at + 1)) (from (omega arith) (second_alike (at + 1))) (λ m to. made_alike (many (p n) m to) (con a) (many_alike n m to))
    opened_alike n at a o SubjectAndArms l =
        then_alike (p n (at + 1)) (next _ _) (λ m to. made_alike (arms_of S s p [] n a to) (cases m) (arms_alike [] n a to))
    opened_alike n at a o ArityAndBody l = fault_alike (of_rule {e = 4} (omega arith) (omega arith)) l (omega arith)
    opened_alike n at a o HighAndLow l = made_alike (number s (at + 1)) num (from (omega arith) (number_alike (at + 1)))
    opened_alike n at a o TwoParts l = made_alike (many (p n) operands (at + 1)) (op a) (many_alike n operands (at + 1))

  term_alike : (S : Setting) (d n at : ℕ) → Alike s k (at + 1) (term S s d n at) (term S u d n at)
  unfolding term
  term_alike S zero n at = word_alike at (λ w l. fault_alike (of_rule {e = 6} (omega arith) (omega arith)) l (omega arith))
  term_alike S (suc d) n at = word_alike at (λ w l. head_alike S.version at_term w at l (λ r.
      opened_alike S (term S s d) (term S u d) (term_alike S d) n at (w % 256) r.binds r.parts l))

-- what reading the whole of s refuses
ended_told : (s : List ℕ) (g : Got Term) {e p : ℕ} → Tells s g → then g (ended s) ≡ fault e p → Told s e p
unfolding then ended
ended_told s (fault d i) {e} {p} x h = go x (cc) (cc)
  where
    go : Tells s {A = Term} (fault d i) → d ≡ e → i ≡ p → Told s e p
    go (faults t) a b = rw (a, b) at t
ended_told s (found t to) {e} {p} x h = go (ltb to (length s)) refl h
  where
    go : (b : Bool) → ltb to (length s) ≡ b → cond b (fault 8 to) (found t to) ≡ fault e p → Told s e p
    go true b k = let x : ◌≡◌ {A = ℕ} 8 e = cc in let y : to ≡ p = cc in tests {e = e} {p = p} (of_rule {e = e} (omega arith) (omega arith)) (omega (arith, ltb-true to (length s) b))
    go false b k = never cc

-- and what the words of another table come to that agree with it up to the place
ended_same : (s u : List ℕ) (k : ℕ) → ((i : ℕ) → i < k → i < length s → i < length u) → (g h : Got Term) → Alike s k 1 g h → {e p : ℕ}
    → then g (ended s) ≡ fault e p → 4 ≤ e → p < k → then h (ended u) ≡ fault e p
unfolding then ended
ended_same s u k longer (fault d i) h x {e} {p} q l m =
    let a : d ≡ e = cc in let b : i ≡ p = cc in
    rw (x.same (by_fault (omega arith) (omega arith))).1 q
ended_same s u k longer (found t to) h x {e} {p} q l m = go (ltb to (length s)) refl q
  where
    go : (b : Bool) → ltb to (length s) ≡ b → cond b (fault 8 to) (found t to) ≡ fault e p → then h (ended u) ≡ fault e p
    go true b q =
        let y : to ≡ p = cc in
        rw (x.same (by_end (omega arith))).1 (simp (lt-ltb to (length u) (longer to (omega arith) (ltb-true to (length s) b))) q)
    go false b q = never cc

abbrev whole : Setting → List ℕ → Got Term
whole S s = then (term S s deepest 0 0) (ended s)

whole_told : (S : Setting) (s : List ℕ) {e p : ℕ} → whole S s ≡ fault e p → Told s e p
whole_told S s h = ended_told s (term S s deepest 0 0) (term_alike s s 0 (λ i a. absurd (omega arith)) S deepest 0 0).tells h

whole_same : (S : Setting) (s more : List ℕ) {e p : ℕ} → whole S s ≡ fault e p → 4 ≤ e → p < length s → whole S (take (p + 1) s ++ more) ≡ fault e p
whole_same S s more {e} {p} h l m =
    ended_same s u (p + 1) (λ i a b. (agree i a b).0) (term S s deepest 0 0) (term S u deepest 0 0) (term_alike s u (p + 1) agree S deepest 0 0) h l (omega arith)
  where
    u : List ℕ
    u = take (p + 1) s ++ more

    first : length (take (p + 1) s) ≡ p + 1
    first = length-take-le (p + 1) s (omega arith)

    agree : (i : ℕ) → i < p + 1 → i < length s → (i < length u) × (get_or u i 0 ≡ get_or s i 0)
    agree i a b = (
      omega (arith, length-append (take (p + 1) s) more, first),
      get_or-append (take (p + 1) s) more 0 i (omega (arith, first)) ∙ get_or-take (p + 1) s i 0 a,
    )

-- the tests of the version and the lengths before it
read_whole : (S : Setting) (s : List ℕ) → known S.version ≡ true → (length s ≡ 0 → ⊥) → length s ≤ most_words → read S s ≡ reading (whole S s)
unfolding read closed
read_whole S s k n l = simp (k, ne_eqb (length s) 0 n, le-ltb most_words (length s) l)

reading_refused : (g : Got Term) {e p : ℕ} → reading g ≡ refused e p → g ≡ fault e p
reading_refused (found t to) h = never cc
reading_refused (fault e p) h = cc

placed : (S : Setting) {ws : List ℕ} {e p : ℕ} → known S.version ≡ true → length ws ≤ most_words → whole S ws ≡ fault e p → Told ws e p → Placed S ws e p
placed S k l h ends = of_end l
placed S {ws} {e} {p} k l h (tests m i) = of_word l m i same
  where
    same : (more : List ℕ) → length (take (p + 1) ws ++ more) ≤ most_words → read S (take (p + 1) ws ++ more) ≡ refused e p
    same more few =
        let some : length (take (p + 1) ws ++ more) ≡ 0 → ⊥
        = λ z. omega (arith, length-append (take (p + 1) ws) more, length-take-le (p + 1) ws (omega arith)) in
        read_whole S (take (p + 1) ws ++ more) k some few ∙ ap reading (whole_same S ws more h (past_three m) i)

pub places_help : PlacesHelp
unfolding read closed then
places_help S ws e p h = go (known S.version) refl (eqb (length ws) 0) (ltb most_words (length ws)) (ltb-false most_words (length ws)) h
  where
    go : (a : Bool) → known S.version ≡ a → (b c : Bool) → (c ≡ false → length ws ≤ most_words)
        → reading (then (cond a (cond b (fault 1 no_place) (cond c (fault 2 no_place) (term S ws deepest 0 0))) (fault 11 no_place)) (ended ws)) ≡ refused e p
        → Placed S ws e p
    go false v b c few k = let x : ◌≡◌ {A = ℕ} 11 e = cc in let y : no_place ≡ p = cc in rw (← x, ← y) of_version
    go true v true c few k = let x : ◌≡◌ {A = ℕ} 1 e = cc in let y : no_place ≡ p = cc in rw (← y) (of_length {e = e} (omega arith) (omega arith))
    go true v false true few k = let x : ◌≡◌ {A = ℕ} 2 e = cc in let y : no_place ≡ p = cc in rw (← y) (of_length {e = e} (omega arith) (omega arith))
    go true v false false few k = placed S v (few refl) (reading_refused (whole S ws) k) (whole_told S ws (reading_refused (whole S ws) k))
