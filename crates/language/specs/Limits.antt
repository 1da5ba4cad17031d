-- What a rule may hold: document 01, the ranges of "Words of a rule", and the depth and the words of "Checks in order".
use Rattle.std.specs.Prelude.{ℕ, suc, ◌+◌, ◌≤◌, ◌<◌, max, true, ◌≡◌, length}
use Rattle.language.specs.Term.{Lang, rules, Term, Terms, Arms, var, kvar, fun, call, bind, con, cases, num, op, nil, cons, none, arm, size, sizeᵃ}
use Rattle.language.specs.Setting.{Setting}
use Rattle.language.specs.Kinds.{most_arguments, most_arms, most_byte, last_operation, operands, known, Has}
use Rattle.language.specs.Words.{added, words}
use Rattle.language.specs.Scope.{HasK, Scoped}
use Rattle.language.specs.Run.{number_end}
use Rattle.language.specs.Dead.{Live}

-- "a term at depth 65" is refused
abbrev pub deepest : ℕ
deepest = 64

-- "more than 4,096 words (28,672 for an image file)"
abbrev pub most_words : ℕ
most_words = 4096

abbrev pub most_image_words : ℕ
most_image_words = 28672

-- `Ranged L t`: each number in t is within its range in the language L. In an image functions and calls have one argument more than in a rule:
-- "so images reach 16 arguments" (document 02, Wish 5). Wish 13: "a 32-bit unsigned number", "an operation on two parts".
mutual
  pub data Ranged (L : Lang) : Term → Type 0 where
    r_var : {i : ℕ} → i ≤ most_byte → Ranged L (var i)
    r_kvar : {i : ℕ} → HasK L → i ≤ most_byte → Ranged L (kvar i)
    r_fun : {o a : ℕ} {b : Term} → o ≤ 1 → 1 ≤ a + added L → a ≤ most_arguments → Ranged L b → Ranged L (fun o a b)
    r_call : {f : Term} {ps : Terms} → 1 ≤ size ps → size ps ≤ most_arguments + added L → Ranged L f → Rangedᵗ L ps → Ranged L (call f ps)
    r_bind : {m b : Term} → Ranged L m → Ranged L b → Ranged L (bind m b)
    r_con : {t : ℕ} {ps : Terms} → t ≤ most_byte → size ps ≤ most_arguments → Rangedᵗ L ps → Ranged L (con t ps)
    r_cases : {m : Term} {ps : Arms} → 1 ≤ sizeᵃ ps → sizeᵃ ps ≤ most_arms → Ranged L m → Rangedᵃ L ps → Ranged L (cases m ps)
    r_num : {n : ℕ} → n < number_end → Ranged L (num n)
    r_op : {o : ℕ} {ps : Terms} → o ≤ last_operation → size ps ≡ operands → Rangedᵗ L ps → Ranged L (op o ps)

  pub data Rangedᵗ (L : Lang) : Terms → Type 0 where
    r_nil : Rangedᵗ L nil
    r_cons : {t : Term} {ts : Terms} → Ranged L t → Rangedᵗ L ts → Rangedᵗ L (cons t ts)

  pub data Rangedᵃ (L : Lang) : Arms → Type 0 where
    r_none : Rangedᵃ L none
    r_arm : {t n : ℕ} {b : Term} {ps : Arms} → t ≤ most_byte → n ≤ most_arguments → Ranged L b → Rangedᵃ L ps → Rangedᵃ L (arm t n b ps)

-- "the rule is at depth 1, each part one deeper, an arm's body one deeper than its match"
unfoldable mutual
  pub depth : Term → ℕ
  depth (var i) = 1
  depth (kvar i) = 1
  depth (fun o a b) = suc (depth b)
  depth (call f ps) = suc (max (depth f) (depthᵗ ps))
  depth (bind m b) = suc (max (depth m) (depth b))
  depth (con t ps) = suc (depthᵗ ps)
  depth (cases m ps) = suc (max (depth m) (depthᵃ ps))
  depth (num n) = 1
  depth (op o ps) = suc (depthᵗ ps)

  pub depthᵗ : Terms → ℕ
  depthᵗ nil = 0
  depthᵗ (cons t ts) = max (depth t) (depthᵗ ts)

  pub depthᵃ : Arms → ℕ
  depthᵃ none = 0
  depthᵃ (arm t n b ps) = max (depth b) (depthᵃ ps)

-- `Kinded P t`: P holds of the kind of every head in t, an arm's too
mutual
  pub data Kinded (P : ℕ → Type 0) : Term → Type 0 where
    k_var : {i : ℕ} → P 1 → Kinded P (var i)
    k_kvar : {i : ℕ} → P 9 → Kinded P (kvar i)
    k_fun : {o a : ℕ} {b : Term} → P (2 + o) → Kinded P b → Kinded P (fun o a b)
    k_call : {f : Term} {ps : Terms} → P 4 → Kinded P f → Kindedᵗ P ps → Kinded P (call f ps)
    k_bind : {m b : Term} → P 5 → Kinded P m → Kinded P b → Kinded P (bind m b)
    k_con : {t : ℕ} {ps : Terms} → P 6 → Kindedᵗ P ps → Kinded P (con t ps)
    k_cases : {m : Term} {ps : Arms} → P 7 → Kinded P m → Kindedᵃ P ps → Kinded P (cases m ps)
    k_num : {n : ℕ} → P 10 → Kinded P (num n)
    k_op : {o : ℕ} {ps : Terms} → P 11 → Kindedᵗ P ps → Kinded P (op o ps)

  pub data Kindedᵗ (P : ℕ → Type 0) : Terms → Type 0 where
    k_nil : Kindedᵗ P nil
    k_cons : {t : Term} {ts : Terms} → Kinded P t → Kindedᵗ P ts → Kindedᵗ P (cons t ts)

  pub data Kindedᵃ (P : ℕ → Type 0) : Arms → Type 0 where
    k_none : Kindedᵃ P none
    k_arm : {t n : ℕ} {b : Term} {ps : Arms} → P 8 → Kinded P b → Kindedᵃ P ps → Kindedᵃ P (arm t n b ps)

-- the terms that rules stand for in a setting: its version is known, and they are "a closed mini-ML program" within the limits, of the kinds that the
-- version has, without dead arms
pub record Rule (S : Setting) (t : Term) : Type 0 where
  pub versed : known S.version ≡ true
  pub kinds : Kinded (Has S.version) t
  pub closed : Scoped rules 0 0 t
  pub ranged : Ranged rules t
  pub shallow : depth t ≤ deepest
  pub short : length (words rules t) ≤ most_words
  pub live : Live t
