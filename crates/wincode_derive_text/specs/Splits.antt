-- The tokens of a text in which no comment stands that may be a note.
use Rattle.std.specs.Prelude.{◌≡◌, ℕ, ◌+◌, ◌-◌, Bool, true, not, nat_lt, ◌||◌, ◌&&◌, ◌==◌, if◌then◌else◌, List, [], ◌∷◌, ◌++◌, map, codes, bytes_eq}
use Rattle.std.specs.Prelude.{Option, Some, None, is_some, unwrap_or, Result, Ok, Err, MatchOption, option_and_then, option_map}
use Rattle.std.specs.Char.{encode_utf8, is_ascii_alphanumeric, is_whitespace}
use Rattle.std.specs.String.{string_bytes}
use Rattle.std.specs.Global.{Vec}
use Rattle.wincode_derive_text.specs.Notes.{may_be_note}
use Rattle.wincode_derive_text.specs.declared.error.DeriveError.{DeriveError}
use Rattle.wincode_derive_text.specs.declared.error.DeriveError.TheVariants.{OutOfMemory}
use Rattle.wincode_derive_text.specs.declared.tokens.Kind.{Kind}
use Rattle.wincode_derive_text.specs.declared.tokens.Kind.TheVariants as kind
use Rattle.wincode_derive_text.specs.declared.tokens.Lexer.{Lexer}
use Rattle.wincode_derive_text.specs.declared.tokens.Place.{Place}
use Rattle.wincode_derive_text.specs.declared.tokens.Place.TheVariants as place
use Rattle.wincode_derive_text.specs.declared.tokens.Token.{Token}

-- a letter, a digit or `_`
abbrev pub of_word : ℕ → Bool
of_word c = is_ascii_alphanumeric c || (c == 95)

-- letters, digits and `_` alone
abbrev pub all_of_word : List ℕ → Bool
all_of_word [] = true
all_of_word (c ∷ cs) = of_word c && all_of_word cs

-- what a token is, and its bytes
abbrev pub piece : Token → Kind × List ℕ
piece token = (token.kind, string_bytes token.text)

-- where the next character stands, the bytes of the token or the comment that is being read, how many comments are open or `#` still
-- to come, and how many `#` end a text that directly follows the last token, if it is raw
pub record Reached : Type 0 where
  pub place : Place
  pub word : List ℕ
  pub depth : ℕ
  pub fence : Option ℕ

-- the tokens that a character ends, and what is reached behind it
pub record Taken : Type 0 where
  pub ended : List (Kind × List ℕ)
  pub reached : Reached

-- no token is being read
abbrev pub behind : Option ℕ → Reached
behind fence = record { place = place.Between; word = []; depth = 0; fence = fence }

abbrev pub between : Reached
between = behind None

-- the same with that many open comments, or `#` still to come
abbrev pub counted : ℕ → Reached → Reached
counted n r = record { place = r.place; word = r.word; depth = n; fence = r.fence }

-- the words that make a text behind them raw
abbrev pub makes_raw : List ℕ → Bool
makes_raw word = bytes_eq word (codes "r") || bytes_eq word (codes "br") || bytes_eq word (codes "cr")

-- A text directly behind such a word is raw, and ends without a `#`. Each `#` that follows the word is one more for its end.
abbrev pub fence_behind : Kind → List ℕ → Option ℕ → Option ℕ
fence_behind kind.Word word fence = if makes_raw word then Some 0 else None
fence_behind kind.Sign word fence = if bytes_eq word (codes "#") then option_map (λ n. n + 1) fence else None
fence_behind _ word fence = None

-- a token that is at its end
abbrev pub ended : Kind → List ℕ → Option ℕ → Taken
ended k word fence = record { ended = (k, word) ∷ []; reached = behind (fence_behind k word fence) }

-- a character that belongs to the token or the comment, and where the next then stands
abbrev pub kept : Place → Reached → ℕ → Taken
kept p r c = record { ended = []; reached = record { place = p; word = r.word ++ encode_utf8 c; depth = r.depth; fence = r.fence } }

-- a character that belongs to the token, and ends it
abbrev pub closed : Kind → Reached → ℕ → Taken
closed k r c = ended k (r.word ++ encode_utf8 c) r.fence

-- A character behind the end of a token: white space is passed over, a text, a quote, a `:`, a `/` or a word begins, and any other is a sign.
abbrev pub begun : Option ℕ → ℕ → Taken
begun fence c =
    if is_whitespace c then record { ended = []; reached = between }
    else if c == 34 then kept (if is_some fence then place.Raw else place.Text) (behind fence) c
    else if c == 39 then kept place.Quote (behind fence) c
    else if c == 58 then kept place.Colon (behind fence) c
    else if c == 47 then kept place.Slash (behind fence) c
    else if of_word c then kept place.Word (behind fence) c
    else closed kind.Sign (behind fence) c

-- a token that is at its end, and what a character behind it begins
abbrev pub in_front : Kind → Reached → ℕ → Taken
in_front k r c =
    let next = begun (fence_behind k r.word r.fence) c in
    record { ended = (k, r.word) ∷ next.ended; reached = next.reached }

-- A word goes on with characters of words, and with a quote as the prime of a ghost name, but for that of `b'x'`.
abbrev pub in_word : Reached → ℕ → Taken
in_word r c = if of_word c || ((c == 39) && not (bytes_eq r.word (codes "b"))) then kept place.Word r c else in_front kind.Word r c

-- Behind a `:` another makes a sign of both.
abbrev pub behind_colon : Reached → ℕ → Taken
behind_colon r c = if c == 58 then closed kind.Sign r c else in_front kind.Sign r c

-- Behind a `'` a second one ends a character, and a `\` protects what follows it. What doesn't end so is a lifetime.
abbrev pub in_quote : Place → Reached → ℕ → Taken
in_quote place.Escape r c = kept place.Escaped r c
in_quote place.Escaped r c = if c == 39 then closed kind.Literal r c else if c == 10 then in_front kind.Lifetime r c else kept place.Escaped r c
in_quote place.Quote r c =
    if c == 39 then closed kind.Literal r c
    else if c == 92 then kept place.Escape r c
    else kept (if of_word c then place.Name else place.Char) r c
in_quote place.Name r c = if c == 39 then closed kind.Literal r c else if of_word c then kept place.Name r c else in_front kind.Lifetime r c
in_quote _ r c = if c == 39 then closed kind.Literal r c else in_front kind.Lifetime r c

-- a character that ends a raw text, if no `#` are to follow it
abbrev pub ends_before : ℕ → Reached → ℕ → Taken
ends_before n r c = if n == 0 then closed kind.Literal r c else kept place.RawEnd (counted n r) c

-- In a raw text a `"` may end it.
abbrev pub in_raw : Reached → ℕ → Taken
in_raw r c = if c == 34 then ends_before (unwrap_or r.fence 0) r c else kept place.Raw r c

-- A `"` ends a text, but for one behind a `\`, and for a raw text only with its `#` behind it.
abbrev pub in_text : Place → Reached → ℕ → Taken
in_text place.Raw r c = in_raw r c
in_text place.RawEnd r c = if c == 35 then ends_before (r.depth - 1) r c else in_raw r c
in_text place.TextEscape r c = kept place.Text r c
in_text _ r c = if c == 34 then closed kind.Literal r c else kept (if c == 92 then place.TextEscape else place.Text) r c

-- A comment that is at its end is passed over. Nothing is said of one that may be a note.
abbrev pub passed : List ℕ → Option Taken
passed comment = if may_be_note comment then None else Some (record { ended = []; reached = between })

-- Behind a `/` another begins a comment that ends with its line, and a `*` one that `*/` ends. Else it is a sign.
abbrev pub behind_slash : Reached → ℕ → Taken
behind_slash r c =
    if c == 47 then kept place.Comment r c
    else if c == 42 then kept place.Block (counted 1 r) c
    else in_front kind.Sign r c

-- A comment that began with `//` ends in front of the line break.
abbrev pub in_line : Reached → ℕ → Option Taken
in_line r c = if c == 10 then passed r.word else Some (kept place.Comment r c)

-- where a character of such a comment is followed
abbrev pub block_place : ℕ → Place
block_place c = if c == 42 then place.BlockStar else if c == 47 then place.BlockSlash else place.Block

-- In a comment that began with `/*` another `/*` opens one more, and `*/` ends the one that was opened last.
abbrev pub in_block : Place → Reached → ℕ → Option Taken
in_block place.BlockStar r c =
    if c == 47 then if nat_lt 1 r.depth then Some (kept place.Block (counted (r.depth - 1) r) c) else passed (r.word ++ encode_utf8 c)
    else Some (kept (block_place c) r c)
in_block place.BlockSlash r c = if c == 42 then Some (kept place.Block (counted (r.depth + 1) r) c) else Some (kept (block_place c) r c)
in_block _ r c = Some (kept (block_place c) r c)

-- What is being read goes on as its own definition has it.
abbrev pub taken_at : Place → Reached → ℕ → Option Taken
taken_at place.Between r c = Some (begun r.fence c)
taken_at place.Word r c = Some (in_word r c)
taken_at place.Colon r c = Some (behind_colon r c)
taken_at place.Slash r c = Some (behind_slash r c)
taken_at place.Comment r c = in_line r c
taken_at place.Block r c = in_block place.Block r c
taken_at place.BlockStar r c = in_block place.BlockStar r c
taken_at place.BlockSlash r c = in_block place.BlockSlash r c
taken_at place.Text r c = Some (in_text place.Text r c)
taken_at place.TextEscape r c = Some (in_text place.TextEscape r c)
taken_at place.Raw r c = Some (in_text place.Raw r c)
taken_at place.RawEnd r c = Some (in_text place.RawEnd r c)
taken_at p r c = Some (in_quote p r c)

-- the next character, as what is reached has it
abbrev pub taken : Reached → ℕ → Option Taken
taken r c = taken_at r.place r c

-- what is reached by a lexer
abbrev pub reached : Lexer → Reached
reached lexer = record { place = lexer.place; word = string_bytes lexer.word; depth = lexer.depth; fence = lexer.fence }

-- the call added these tokens and reached that place, or there was no memory
abbrev pub Takes : Lexer → Lexer → Result Unit DeriveError → Taken → Type 0
Takes old new (Ok _) t = (map piece new.tokens.items ≡ map piece old.tokens.items ++ t.ended) × (reached new ≡ t.reached)
Takes old new (Err e) t = e ≡ OutOfMemory

abbrev pub TakesIfKnown : Lexer → Lexer → Result Unit DeriveError → Option Taken → Type 0
TakesIfKnown old new result t = MatchOption t Unit (λ t. Takes old new result t)

-- No token is left behind the end of the text; none are known where it ends inside one.
abbrev pub none_left : Place → Option (List (Kind × List ℕ))
none_left place.Between = Some []
none_left _ = None

-- the tokens of what is left, from what is reached on
abbrev pub splits : Reached → List ℕ → Option (List (Kind × List ℕ))
splits r [] = none_left r.place
splits r (c ∷ cs) = option_and_then (λ t. option_map (λ ts. t.ended ++ ts) (splits t.reached cs)) (taken r c)

-- the tokens of what is left, where none is being read
abbrev pub tokens_from : List ℕ → Option (List (Kind × List ℕ))
tokens_from cs = splits between cs

-- the tokens of a text, which ends as a line does
abbrev pub tokens_in : List ℕ → Option (List (Kind × List ℕ))
tokens_in cs = tokens_from (cs ++ 10 ∷ [])

-- these are the tokens, if they are known, or there was no memory
abbrev pub Splits : Option (List (Kind × List ℕ)) → Result (Vec Token) DeriveError → Type 0
Splits None result = Unit
Splits (Some all) (Ok tokens) = map piece tokens.items ≡ all
Splits (Some all) (Err e) = e ≡ OutOfMemory
