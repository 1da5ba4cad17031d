-- The words of records: a record's size, references in two words, and the words that stand in a record.
use Rattle.std.specs.Prelude.{ℕ, zero, suc, ◌+◌, ◌*◌, ◌/◌, ◌%◌, ◌^◌, ◌≤◌, ◌<◌, ◌≡◌, List, [], ◌∷◌, length, get_or}

-- "A record is a fixed count of 32-bit words, at most 40, stated in docs/": document 02, Wish 2
abbrev pub record_words : ℕ
record_words = 36

-- one more than the highest word of a record
abbrev pub link_end : ℕ
link_end = 2 ^ 32

-- a reference to a record is the place of its first word, in two words, low first
abbrev pub low : ℕ → ℕ
low r = r % link_end

abbrev pub high : ℕ → ℕ
high r = r / link_end

-- the references rs, one after the other
unfoldable pub links : List ℕ → List ℕ
links [] = []
links (r ∷ rs) = low r ∷ high r ∷ links rs

-- the reference in the words i and i + 1 of the record at r
abbrev pub link_at : List ℕ → ℕ → ℕ → ℕ
link_at m r i = get_or m (r + i) 0 + get_or m (r + (i + 1)) 0 * link_end

-- the words ws stand in the records m from r on
pub record Words (m : List ℕ) (r : ℕ) (ws : List ℕ) : Type 0 where
  pub is : (i : ℕ) → i < length ws → get_or m (r + i) 0 ≡ get_or ws i 0

-- the record at r is among the words up to n
pub record Within (r n : ℕ) : Type 0 where
  pub fits : r + record_words ≤ n

-- what is bound: a list of bindings, each the value's reference and then that of the next. The value of the i-th from h on
unfoldable pub found_from : List ℕ → ℕ → ℕ → ℕ
found_from m h zero = link_at m h 0
found_from m h (suc i) = found_from m (link_at m h 2) i

-- below n the records are as they were, and of them the words up to n' are now in use
pub record Grown (m m' : List ℕ) (n n' : ℕ) : Type 0 where
  pub same : (i : ℕ) → i < n → get_or m' i 0 ≡ get_or m i 0
  pub long : length m' ≡ length m
  pub more : n ≤ n'
  pub room : n' ≤ length m
