-- A line that the program `keys` reads, and the form of the line that it prints for it. A line is the list of its bytes without the newline:
-- NUMBER TAB HEX, a number of the customer's own and a title's bytes. A carriage return at its end is dropped.
use Rattle.std.specs.Prelude.{ℕ, zero, suc, ◌+◌, ◌-◌, ◌*◌, ◌%◌, Bool, cond, ◌&&◌, List, [], ◌∷◌, ◌++◌, eqb, ltb, leb, length, take, drop, get_or}
use Rattle.questions.specs.Questions.{all}
use Rattle.ascii.specs.Ascii.{newline, refusal}

-- ---- NUMBER

-- 0 to 9
unfoldable pub is_decimal : ℕ → Bool
is_decimal x = leb 0x30 x && leb x 0x39

-- the number that decimal digits make behind those of v
unfoldable pub value_from : ℕ → List ℕ → ℕ
value_from v [] = v
value_from v (x ∷ xs) = value_from (v * 10 + (x - 0x30)) xs

-- one to ten decimal digits that make a number of 32 bits
unfoldable pub is_number : List ℕ → Bool
unfolding all is_decimal value_from
is_number ds = leb 1 (length ds) && (leb (length ds) 10 && (all is_decimal ds && leb (value_from 0 ds) 0xFFFFFFFF))

-- ---- HEX

-- the value of a hexadecimal digit in either case; 16 for any other byte
unfoldable pub hex_value : ℕ → ℕ
hex_value x =
    cond (leb 0x30 x && leb x 0x39) (x - 0x30)
    (cond (leb 0x41 x && leb x 0x46) (x - 0x37)
    (cond (leb 0x61 x && leb x 0x66) (x - 0x57) 16))

unfoldable pub is_hex_digit : ℕ → Bool
unfolding hex_value
is_hex_digit x = ltb (hex_value x) 16

-- an even count of hexadecimal digits, for 65,535 bytes at most
unfoldable pub is_hex : List ℕ → Bool
unfolding all is_hex_digit
is_hex ds = leb (length ds) 131070 && (eqb (length ds % 2) 0 && all is_hex_digit ds)

-- two digits a byte
unfoldable pub bytes_of : List ℕ → List ℕ
unfolding hex_value
bytes_of [] = []
bytes_of (a ∷ []) = []
bytes_of (a ∷ (b ∷ ds)) = (hex_value a * 16 + hex_value b) ∷ bytes_of ds

-- ---- a line

-- the line without a carriage return at its end
unfoldable pub trimmed : List ℕ → List ℕ
trimmed l = cond (eqb (get_or l (length l - 1) 0) 0x0D) (take (length l - 1) l) l

-- the place of the first TAB; the length where there is none
unfoldable pub tab_at : List ℕ → ℕ
tab_at [] = 0
tab_at (x ∷ xs) = cond (eqb x 0x09) 0 (suc (tab_at xs))

-- what stands before the TAB and behind it
abbrev pub number_of : List ℕ → List ℕ
number_of l = take (tab_at l) l

abbrev pub hex_of : List ℕ → List ℕ
hex_of l = drop (tab_at l + 1) l

-- NUMBER TAB HEX
unfoldable pub is_line : List ℕ → Bool
unfolding tab_at is_number is_hex
is_line l = ltb (tab_at l) (length l) && (is_number (number_of l) && is_hex (hex_of l))

-- ---- what is printed

abbrev pub tab : List ℕ
tab = 0x09 ∷ []

-- a key where the question's number is 0; else `refused`, the number and the place, which is 0
unfoldable pub answer_text : ℕ → List ℕ → List ℕ
unfolding refusal
answer_text zero key = key
answer_text (suc q) key = refusal (suc q) 0

-- NUMBER as it was given, TAB, and the answer
unfoldable pub line_of : List ℕ → ℕ → List ℕ → List ℕ
unfolding answer_text
line_of number q key = number ++ (tab ++ (answer_text q key ++ newline))
