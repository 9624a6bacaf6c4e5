-- The texts of refusals, by their numbers.
use Rattle.std.specs.Ordering.{int_eq}
use Rattle.std.specs.Prelude.{◌≡◌, ◌⊎◌, ℕ, zero, suc, ◌<◌, ◌≤◌, ℤ, pos, neg_ℤ, List, [], ◌++◌, length, take, drop, codes, decimal, cond}

-- Of a text that isn't UTF-8: how many of its bytes are, and how many behind these are no character; it ends within one
-- where these are none.
abbrev pub utf8_message : ℕ → ℕ → List ℕ
utf8_message at zero = codes "incomplete utf-8 byte sequence from index " ++ decimal at
utf8_message at (suc k) = codes "invalid utf-8 sequence of " ++ (decimal (suc k) ++ (codes " bytes from index " ++ decimal at))

-- The text of the refusal with that number, whose text has these two; none of any other number.
abbrev pub message : ℤ → ℕ → ℕ → List ℕ
message n a b =
    cond (int_eq n (pos 1)) (codes "Attempting to read " ++ (decimal a ++ codes " bytes"))
    (cond (int_eq n (pos 2)) (codes "Unsupported zero-copy operation: reader does not support deserializing zero-copy types")
    (cond (int_eq n (pos 4)) (codes "Out of memory")
    (cond (int_eq n (pos 5)) (utf8_message a b)
    (cond (int_eq n (pos 6)) (codes "Could not cast integer type to pointer sized type")
    (cond (int_eq n (pos 7)) (codes "Encoded sequence length exceeded preallocation limit of " ++ (decimal b ++ (codes " bytes (needed " ++ (decimal a ++ codes " bytes)"))))
    (cond (int_eq n (pos 8)) (codes "Invalid tag encoding: " ++ decimal a)
    (cond (int_eq n (pos 9)) (codes "Invalid bool encoding: " ++ decimal a)
    (cond (int_eq n (pos 10)) (codes "Sequence length would overflow length encoding scheme: usize::MAX")
    (cond (int_eq n (pos 11)) (codes "Invalid char lead: " ++ decimal a)
    (cond (int_eq n (pos 13)) (codes "Zero-copy read would be unaligned")
    (cond (int_eq n (pos 14)) (codes "Out of memory")
    (cond (int_eq n (pos 15)) (codes "Bytes behind the value: " ++ decimal a)
    (cond (int_eq n (pos 16)) (codes "Sequence length would overflow length encoding scheme: u16::MAX") [])))))))))))))

-- The text stands over the front of the room, and its length is told; or there is too little room, and nothing is put there.
abbrev pub PutsText : List ℕ → List ℕ → List ℕ → ℕ → ℤ → Type 0
PutsText text old new count n = (count ≡ length text)
    × (((n ≡ pos 0) × (length text ≤ length new) × (take (length text) new ≡ text) × (drop (length text) new ≡ drop (length text) old))
    ⊎ ((n ≡ neg_ℤ (pos 6)) × (length old < length text) × (new ≡ old)))

-- So, of a refusal's text; or memory for it was refused, and nothing is put there.
abbrev pub PutsMessage : ℤ → ℕ → ℕ → List ℕ → List ℕ → ℕ → ℤ → Type 0
PutsMessage number first second old new count n = PutsText (message number first second) old new count n ⊎ ((n ≡ neg_ℤ (pos 5)) × (new ≡ old) × (count ≡ 0))
