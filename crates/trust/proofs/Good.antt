-- What the readers find is good. By induction on the levels of depth left: whatever they find stands there with its words, names only what is bound, is
-- of the version's kinds, and is in its ranges and its depth. That a number's words are its own and that it is in its range takes that the words fit.
-- Assumes nothing.
use Prim.Native.Nat.{ℕ, zero, suc, ◌+◌, ◌-◌, ◌*◌, ◌/◌, ◌%◌, ◌<◌, ◌≤◌}
use mathlib.Core.Path.{◌≡◌, refl, sym, ap, subst}
use mathlib.Core.Bool.{Bool, true, false, cond}
use mathlib.Core.List.{List, [], ◌∷◌, ◌++◌}
use native.Mathlib.Omega.{arith}
use native.Mathlib.Nat.{add-zero}
use native.Mathlib.Numerals.{add-one}
use lib.Dec.{ltb}
use lib.ListN.{length, get_or, drop, length-append, length-drop}
use borrow.Author.Tests.{ltb-true, leb-true}
use Rattle.language.specs.Term.{rules, Term, Terms, Arms, var, fun, call, bind, con, cases, num, op, nil, cons, none, arm, size, sizeᵃ}
use Rattle.language.specs.Setting.{Setting}
use Rattle.language.specs.Kinds.{most_arguments, most_arms, most_byte, last_operation, operands, at_term, at_arm, Has, Head, Refused, Opens, head_of}
use Rattle.language.specs.Words.{head, word_end, words, wordsᵗ, wordsᵃ}
use Rattle.language.specs.Scope.{Scoped, Scopedᵗ, Scopedᵃ, s_var, s_fun, s_call, s_bind, s_con, s_cases, s_num, s_op, s_nil, s_cons, s_none, s_arm}
use Rattle.language.specs.Limits.{Ranged, Rangedᵗ, Rangedᵃ, r_var, r_fun, r_call, r_bind, r_con, r_cases, r_num, r_op, r_nil, r_cons, r_none, r_arm, depth, depthᵗ, depthᵃ}
use Rattle.language.specs.Limits.{Kinded, Kindedᵗ, Kindedᵃ, k_var, k_fun, k_call, k_bind, k_con, k_cases, k_num, k_op, k_nil, k_cons, k_none, k_arm}
use Rattle.language.specs.Run.{number_end}
use Rattle.language.specs.Dead.{dead, Live, Liveᵗ, Liveᵃ, l_var, l_fun, l_call, l_bind, l_con, l_cases, l_num, l_op, l_nil, l_cons, l_none, l_arm}
use Rattle.language.specs.Places.{Held}
use Rattle.language.specs.Read.{Got, found, fault, then, made, headed, second, number, many, unlike, arms_of, opened, term}
use Rattle.language.specs.declared.Row.{Row}
use Rattle.language.proofs.Places.{no_words, one_word, join as join_held}
use Rattle.trust.specs.Promises.{Fit}
use Rattle.trust.proofs.Live.{Fresh, f_none, f_arm, each_taken}
use Rattle.trust.proofs.Rows.{Opened, o_var, o_fun, o_rec, o_call, o_let, o_con, o_match, o_arm, o_num, o_op, passed}

-- `Holds Q g`: whatever the reading g found, Q holds of it and of the place after it
pub data Holds {A : Type 0} (Q : A → ℕ → Type 0) : Got A → Type 0 where
  held : {a : A} {to : ℕ} → Q a to → Holds Q (found a to)
  left : {e p : ℕ} → Holds Q (fault e p)

pub holds_found : {A : Type 0} {Q : A → ℕ → Type 0} {g : Got A} {a : A} {to : ℕ} → Holds Q g → g ≡ found a to → Q a to
holds_found {Q} {a} {to} h e = go (subst (Holds Q) e h)
  where
    go : Holds Q (found a to) → Q a to
    go (held q) = q

pub holds_then : {A B : Type 0} {Q : A → ℕ → Type 0} {P : B → ℕ → Type 0} {g : Got A} (f : A → ℕ → Got B) → Holds Q g
    → ((a : A) (i : ℕ) → Q a i → Holds P (f a i)) → Holds P (then g f)
unfolding then
holds_then f (held {a} {to} q) h = h a to q
holds_then f left h = left

holds_made : {A B : Type 0} {Q : A → ℕ → Type 0} {P : B → ℕ → Type 0} {g : Got A} (f : A → B) → Holds Q g
    → ((a : A) (i : ℕ) → Q a i → P (f a) i) → Holds P (made f g)
unfolding made
holds_made f (held {a} {to} q) h = held (h a to q)
holds_made f left h = left

holds_test : {A : Type 0} {P : A → ℕ → Type 0} (b : Bool) (g : Got A) (e p : ℕ) → (b ≡ true → Holds P g) → Holds P (cond b g (fault e p))
holds_test true g e p h = h refl
holds_test false g e p h = left

holds_head : {A : Type 0} {P : A → ℕ → Type 0} (h : Head) (at : ℕ) (g : Row → Got A) → ((r : Row) → h ≡ Opens r → Holds P (g r))
    → Holds P (headed h at g)
holds_head (Refused e) at g k = left
holds_head (Opens r) at g k = k r refl

-- the words ws stand in s from one place up to another, if those of s fit; and there is room for so many in any case
pub record Laid (s ws : List ℕ) (at to : ℕ) : Type 0 where
  pub past : to ≡ at + length ws
  pub within : length ws ≤ length s - at
  pub words : Fit s → drop at s ≡ ws ++ drop to s

laid : {s ws : List ℕ} {at to : ℕ} → Held s ws at to → Laid s ws at to
laid {s} {ws} {at} {to} h = record {
  past = h.past;
  within = omega (arith, ap length h.words, length-append ws (drop to s), length-drop at s);
  words = λ f. h.words;
}

held_by : {s ws : List ℕ} {at to : ℕ} → Fit s → Laid s ws at to → Held s ws at to
held_by f l = record { words = l.words f; past = l.past }

join : {s xs ys : List ℕ} {at i to : ℕ} → Laid s xs at i → Laid s ys i to → Laid s (xs ++ ys) at to
join {xs} {ys} h k = record {
  past = omega (arith, length-append xs ys);
  within = omega (arith, length-append xs ys);
  words = λ f. (join_held (held_by f h) (held_by f k)).words;
}

-- what was found from one place up to another: its words stand there, and it is good, under n source variables, with d levels left
pub record Good (S : Setting) (s : List ℕ) (d n at : ℕ) (t : Term) (to : ℕ) : Type 0 where
  pub held : Laid s (words rules t) at to
  pub scoped : (c : ℕ) → Scoped rules c n t
  pub ranged : Fit s → Ranged rules t
  pub kinds : Kinded (Has S.version) t
  pub live : Live t
  pub shallow : depth t ≤ d

pub record Goodᵗ (S : Setting) (s : List ℕ) (d n k at : ℕ) (ts : Terms) (to : ℕ) : Type 0 where
  pub held : Laid s (wordsᵗ rules ts) at to
  pub scoped : (c : ℕ) → Scopedᵗ rules c n ts
  pub ranged : Fit s → Rangedᵗ rules ts
  pub kinds : Kindedᵗ (Has S.version) ts
  pub live : Liveᵗ ts
  pub shallow : depthᵗ ts ≤ d
  pub counted : size ts ≡ k

pub record Goodᵃ (S : Setting) (s : List ℕ) (d : ℕ) (before : List (ℕ × ℕ)) (n k at : ℕ) (ps : Arms) (to : ℕ) : Type 0 where
  pub held : Laid s (wordsᵃ rules ps) at to
  pub scoped : (c : ℕ) → Scopedᵃ rules c n ps
  pub ranged : Fit s → Rangedᵃ rules ps
  pub kinds : Kindedᵃ (Has S.version) ps
  pub live : Liveᵃ ps
  pub fresh : Fresh before ps
  pub shallow : depthᵃ ps ≤ d
  pub counted : sizeᵃ ps ≡ k

pub record Second (s : List ℕ) (at m to : ℕ) : Type 0 where
  pub held : Laid s (m ∷ []) at to
  pub most : m ≤ most_arguments

pub record Unlike (s : List ℕ) (before : List (ℕ × ℕ)) (t at m to : ℕ) : Type 0 where
  pub second : Second s at m to
  pub first : dead t m before ≡ false

pub second_good : (s : List ℕ) (at : ℕ) → Holds (Second s at) (second s at)
unfolding second
second_good s at = holds_test _ _ _ _ (λ a. holds_test _ _ _ _ (λ b. held record {
  held = laid (one_word s at (ltb-true at (length s) a));
  most = leb-true (get_or s at 0) most_arguments b;
}))

-- a number and its two words; where the words fit, they are its own and it is in its range
pub record Numeral (s : List ℕ) (at n to : ℕ) : Type 0 where
  pub held : Laid s (n / word_end ∷ n % word_end ∷ []) at to
  pub small : Fit s → n < number_end

pub number_good : (s : List ℕ) (at : ℕ) → Holds (Numeral s at) (number s at)
unfolding number
number_good s at = holds_test _ _ _ _ (λ a. holds_test _ _ _ _ (λ b. held (two (ltb-true at (length s) a) (ltb-true (at + 1) (length s) b))))
  where
    h : ℕ
    h = get_or s at 0

    l : ℕ
    l = get_or s (at + 1) 0

    own : at < length s → at + 1 < length s → Fit s → drop at s ≡ ((h * word_end + l) / word_end ∷ (h * word_end + l) % word_end ∷ []) ++ drop (at + 1 + 1) s
    own a b f =
        let high : h ≡ (h * word_end + l) / word_end = omega (arith, f.word (at + 1)) in
        let low : l ≡ (h * word_end + l) % word_end = omega (arith, f.word (at + 1)) in
        rw (← high, ← low) (join_held (one_word s at a) (one_word s (at + 1) b)).words

    two : at < length s → at + 1 < length s → Numeral s at (h * word_end + l) (at + 1 + 1)
    two a b = record {
      held = record { past = omega arith; within = omega arith; words = own a b };
      small = λ f. omega (arith, f.word at, f.word (at + 1));
    }

pub unlike_good : (s : List ℕ) (before : List (ℕ × ℕ)) (t at : ℕ) → Holds (Unlike s before t at) (unlike s before t at)
unfolding unlike
unlike_good s before t at = holds_then _ (second_good s at) (λ m to x. go m to x (dead t m before) refl)
  where
    go : (m to : ℕ) → Second s at m to → (b : Bool) → dead t m before ≡ b → Holds (Unlike s before t at) (cond b (fault 18 at) (found m to))
    go m to x true e = left
    go m to x false e = held record { second = x; first = e }

-- the terms, lists and arms that good parts make
module _ {S : Setting} {s : List ℕ} {d n at : ℕ} where
  nil_good : Goodᵗ S s d n 0 at nil at
  unfolding words size depth
  nil_good = record { held = laid (no_words s at); scoped = λ c. s_nil; ranged = λ f. r_nil; kinds = k_nil; live = l_nil; shallow = omega arith; counted = refl }

  cons_good : {k i to : ℕ} {t : Term} {ts : Terms} → Good S s d n at t i → Goodᵗ S s d n k i ts to → Goodᵗ S s d n (suc k) at (cons t ts) to
  unfolding words size depth
  cons_good x y = record {
    held = join x.held y.held;
    scoped = λ c. s_cons (x.scoped c) (y.scoped c);
    ranged = λ f. r_cons (x.ranged f) (y.ranged f);
    kinds = k_cons x.kinds y.kinds;
    live = l_cons x.live y.live;
    shallow = omega arith;
    counted = ap suc y.counted;
  }

  none_good : {before : List (ℕ × ℕ)} → Goodᵃ S s d before n 0 at none at
  unfolding words sizeᵃ depth
  none_good = record { held = laid (no_words s at); scoped = λ c. s_none; ranged = λ f. r_none; kinds = k_none; live = l_none; fresh = f_none; shallow = omega arith; counted = refl }

  arm_good : {before : List (ℕ × ℕ)} {t m k i j to : ℕ} {b : Term} {ps : Arms} → Laid s (head 8 t ∷ []) at (at + 1) → Has S.version 8 → t ≤ most_byte
      → Unlike s before t (at + 1) m i → Good S s d (n + m) i b j → Goodᵃ S s d (before ++ ((t, m) ∷ [])) n k j ps to
      → Goodᵃ S s d before n (suc k) at (arm t m b ps) to
  unfolding words sizeᵃ depth
  arm_good h k l m x y = record {
    held = join h (join m.second.held (join x.held y.held));
    scoped = λ c. s_arm (x.scoped c) (y.scoped c);
    ranged = λ f. r_arm l m.second.most (x.ranged f) (y.ranged f);
    kinds = k_arm k x.kinds y.kinds;
    live = l_arm x.live y.live;
    fresh = f_arm m.first y.fresh;
    shallow = omega arith;
    counted = ap suc y.counted;
  }

  var_good : {a : ℕ} → Laid s (head 1 a ∷ []) at (at + 1) → Has S.version 1 → a < n → a ≤ most_byte → Good S s (suc d) n at (var a) (at + 1)
  unfolding words depth
  var_good h k l m = record { held = h; scoped = λ c. s_var l; ranged = λ f. r_var m; kinds = k_var k; live = l_var; shallow = omega arith }

  fun_good : {o a to : ℕ} {b : Term} → Laid s (head (2 + o) a ∷ []) at (at + 1) → Has S.version (2 + o) → o ≤ 1 → 1 ≤ a → a ≤ most_arguments → Good S s d (n + a + o) (at + 1) b to
      → Good S s (suc d) n at (fun o a b) to
  unfolding words depth
  fun_good {a} h k p l m x = record {
    held = rw add-zero (join h x.held);
    scoped = λ c. s_fun (x.scoped (suc c));
    ranged = λ f. r_fun {a = a} p (rw add-zero l) m (x.ranged f);
    kinds = k_fun k x.kinds;
    live = l_fun x.live;
    shallow = omega arith;
  }

  call_good : {a i to : ℕ} {f : Term} {ps : Terms} → Laid s (head 4 a ∷ []) at (at + 1) → Has S.version 4 → 1 ≤ a → a ≤ most_arguments → Good S s d n (at + 1) f i
      → Goodᵗ S s d n a i ps to → Good S s (suc d) n at (call f ps) to
  unfolding words depth
  call_good {ps} h k l m x y = record {
    held = rw y.counted (join h (join x.held y.held));
    scoped = λ c. s_call (x.scoped c) (y.scoped c);
    ranged = λ f. r_call {ps = ps} (omega (arith, y.counted)) (omega (arith, y.counted)) (x.ranged f) (y.ranged f);
    kinds = k_call k x.kinds y.kinds;
    live = l_call x.live y.live;
    shallow = omega arith;
  }

  let_good : {i to : ℕ} {m b : Term} → Laid s (head 5 0 ∷ []) at (at + 1) → Has S.version 5 → Good S s d n (at + 1) m i → Good S s d (n + 1) i b to
      → Good S s (suc d) n at (bind m b) to
  unfolding words depth
  let_good h k x y = record {
    held = join h (join x.held y.held);
    scoped = λ c. s_bind (x.scoped c) (rw add-one at (y.scoped c));
    ranged = λ f. r_bind (x.ranged f) (y.ranged f);
    kinds = k_bind k x.kinds y.kinds;
    live = l_bind x.live y.live;
    shallow = omega arith;
  }

  con_good : {t m i to : ℕ} {ps : Terms} → Laid s (head 6 t ∷ []) at (at + 1) → Has S.version 6 → t ≤ most_byte → Second s (at + 1) m i → Goodᵗ S s d n m i ps to
      → Good S s (suc d) n at (con t ps) to
  unfolding words depth
  con_good {ps} h k l m y = record {
    held = rw y.counted (join h (join m.held y.held));
    scoped = λ c. s_con (y.scoped c);
    ranged = λ f. r_con {ps = ps} l (rw y.counted m.most) (y.ranged f);
    kinds = k_con k y.kinds;
    live = l_con y.live;
    shallow = omega arith;
  }

  match_good : {a i to : ℕ} {m : Term} {ps : Arms} → Laid s (head 7 a ∷ []) at (at + 1) → Has S.version 7 → 1 ≤ a → a ≤ most_arms → Good S s d n (at + 1) m i
      → Goodᵃ S s d [] n a i ps to → Good S s (suc d) n at (cases m ps) to
  unfolding words depth
  match_good {ps} h k l u x y = record {
    held = rw y.counted (join h (join x.held y.held));
    scoped = λ c. s_cases (x.scoped c) (y.scoped c);
    ranged = λ f. r_cases {ps = ps} (omega (arith, y.counted)) (omega (arith, y.counted)) (x.ranged f) (y.ranged f);
    kinds = k_cases k x.kinds y.kinds;
    live = l_cases (each_taken y.fresh) x.live y.live;
    shallow = omega arith;
  }

  num_good : {m to : ℕ} → Laid s (head 10 0 ∷ []) at (at + 1) → Has S.version 10 → Numeral s (at + 1) m to → Good S s (suc d) n at (num m) to
  unfolding words depth
  num_good h k x = record {
    held = join h x.held;
    scoped = λ c. s_num;
    ranged = λ f. r_num (x.small f);
    kinds = k_num k;
    live = l_num;
    shallow = omega arith;
  }

  op_good : {o to : ℕ} {ps : Terms} → Laid s (head 11 o ∷ []) at (at + 1) → Has S.version 11 → o ≤ last_operation → Goodᵗ S s d n operands (at + 1) ps to
      → Good S s (suc d) n at (op o ps) to
  unfolding words depth
  op_good {ps} h k l y = record {
    held = join h y.held;
    scoped = λ c. s_op (y.scoped c);
    ranged = λ f. r_op {ps = ps} l y.counted (y.ranged f);
    kinds = k_op k y.kinds;
    live = l_op y.live;
    shallow = omega arith;
  }

-- the head of the kind k at a place
head_held : (s : List ℕ) (at : ℕ) {k : ℕ} → at < length s → k ≡ get_or s at 0 / 256 → Laid s (head k (get_or s at 0 % 256) ∷ []) at (at + 1)
head_held s at {k} h e =
    let w : get_or s at 0 ≡ head k (get_or s at 0 % 256) = omega arith in
    subst (λ (x : ℕ). Laid s (x ∷ []) at (at + 1)) w (laid (one_word s at h))

-- with the low byte 0 only
zero_low : (k a : ℕ) {s : List ℕ} {at to : ℕ} → a ≤ 0 → Laid s (head k a ∷ []) at to → Laid s (head k 0 ∷ []) at to
zero_low k a l x = let z : a ≡ 0 = omega arith in rw z at x

-- only an arm's head stands at an arm
arm_kind : {k : ℕ} {r : Row} → Opened k r → r.stands ≡ at_arm → 8 ≡ k
arm_kind o_var e = absurd (omega arith)
arm_kind o_fun e = absurd (omega arith)
arm_kind o_rec e = absurd (omega arith)
arm_kind o_call e = absurd (omega arith)
arm_kind o_let e = absurd (omega arith)
arm_kind o_con e = absurd (omega arith)
arm_kind o_match e = absurd (omega arith)
arm_kind o_arm e = refl
arm_kind o_num e = absurd (omega arith)
arm_kind o_op e = absurd (omega arith)

-- the readers find such terms, lists and arms, where p finds the parts
module _ (S : Setting) (s : List ℕ) (d : ℕ) (p : ℕ → ℕ → Got Term) (good : (n at : ℕ) → Holds (Good S s d n at) (p n at)) where
  pub many_good : (n k at : ℕ) → Holds (Goodᵗ S s d n k at) (many (p n) k at)
  unfolding many
  many_good n zero at = held nil_good
  many_good n (suc k) at = holds_then _ (good n at) (λ t i x. holds_made _ (many_good n k i) (λ ts to y. cons_good x y))

  pub arms_good : (before : List (ℕ × ℕ)) (n k at : ℕ) → Holds (Goodᵃ S s d before n k at) (arms_of S s p before n k at)
  unfolding arms_of
  arms_good before n zero at = held none_good
  arms_good before n (suc k) at = holds_test (ltb at (length s)) _ 3 (length s) (λ a. holds_head (head_of S.version at_arm (get_or s at 0)) at _ (λ r e.
      let h = passed S.version at_arm (get_or s at 0) r (omega arith) e in
      let eight = arm_kind h.opened h.stands in
      let first = head_held s at (ltb-true at (length s) a) eight in
      let stood : Has S.version 8 = subst (Has S.version) (sym eight) h.versed in
      let t = get_or s at 0 % 256 in
      holds_then _ (unlike_good s before t (at + 1)) (λ m i y. holds_then _ (good (n + m) i)
      (λ b j x. holds_made _ (arms_good (before ++ ((t, m) ∷ [])) n k j) (λ ps to z. arm_good first stood (byte (get_or s at 0)) y x z)))))
    where
      byte : (w : ℕ) → w % 256 ≤ most_byte
      byte w = omega arith

  opened_good : (n at : ℕ) {k : ℕ} {r : Row} → at < length s → k ≡ get_or s at 0 / 256 → Has S.version k → Opened k r → r.stands ≡ at_term → r.low ≤ get_or s at 0 % 256
      → get_or s at 0 % 256 ≤ r.high → Holds (Good S s (suc d) n at) (opened S s p n at (get_or s at 0 % 256) r.binds r.parts)
  unfolding opened
  opened_good n at h q k o_var e l u = holds_test (ltb (get_or s at 0 % 256) n) _ 7 at (λ b. held (var_good (head_held s at h q) k (ltb-true _ n b) u))
  opened_good n at h q k o_fun e l u = holds_made _ (good _ _) (λ b to y. fun_good (head_held s at h q) k (omega arith) l u y)
  opened_good n at h q k o_rec e l u = holds_made _ (good _ _) (λ b to y. fun_good (head_held s at h q) k (omega arith) l u y)
  opened_good n at h q k o_call e l u =
      holds_then _ (good _ _) (λ f i y. holds_made _ (many_good _ _ _) (λ ps to z. call_good (head_held s at h q) k l u y z))
  opened_good n at h q k o_let e l u =
      holds_then _ (good _ _) (λ m i y. holds_made _ (good _ _) (λ b to z. let_good (zero_low 5 (get_or s at 0 % 256) u (head_held s at h q)) k y z))
  opened_good n at h q k o_con e l u =
      holds_then _ (second_good s (at + 1)) (λ m i y. holds_made _ (many_good _ _ _) (λ ps to z. con_good (head_held s at h q) k u y z))
  opened_good n at h q k o_match e l u =
      holds_then _ (good _ _) (λ m i y. holds_made _ (arms_good [] _ _ _) (λ ps to z. match_good (head_held s at h q) k l u y z))
  opened_good n at h q k o_arm e l u = absurd (omega arith)
  opened_good n at h q k o_num e l u = holds_made _ (number_good s (at + 1)) (λ m to y. num_good (zero_low 10 (get_or s at 0 % 256) u (head_held s at h q)) k y)
  opened_good n at h q k o_op e l u = holds_made _ (many_good _ _ _) (λ ps to z. op_good (head_held s at h q) k u z)

pub term_good : (S : Setting) (s : List ℕ) (d n at : ℕ) → Holds (Good S s d n at) (term S s d n at)
unfolding term
term_good S s zero n at = holds_test (ltb at (length s)) _ 3 (length s) (λ a. left)
term_good S s (suc d) n at = holds_test (ltb at (length s)) _ 3 (length s) (λ a. holds_head (head_of S.version at_term (get_or s at 0)) at _ (λ r e.
    let h = passed S.version at_term (get_or s at 0) r (omega arith) e in
    opened_good S s d (term S s d) (term_good S s d) n at (ltb-true at (length s) a) refl h.versed h.opened h.stands h.low h.high))
