-- WORDS COME BACK: what is printed for any bytes is read as those bytes.
use Rattle.std.proofs.Common.{◌≡◌, ℕ, zero, suc, ◌+◌, ◌-◌, ◌*◌, ◌/◌, ◌%◌, ◌<◌, true, false, cond, not, ◌&&◌, eqb, ltb, leb, List, [], ◌∷◌, ◌++◌, length, replicate, Some, None, Ok, sym, refl, ap, ◌∙◌, subst, ⊎_elim, append_assoc, append-nil, arith}
use Rattle.std.proofs.lemmas.List.{replicate_more}
use Rattle.std.proofs.lemmas.Bool.{and_parts, ltb-true, eqb-true, ne_eqb, lt-ltb, le-ltb, leb-true, cond-true, cond-false, cases_lt, cases_Bool, not-true}
use Rattle.std.proofs.lemmas.Bool.Decides.{nat_tests}
use Rattle.model.specs.Calls.{bytes}
use Rattle.words.specs.declared.reading.Reading.{Reading}
use Rattle.words.specs.declared.reading.Reading.TheVariants.{Begun, Empty, Byte, Repeated, EscapeFirst, EscapeByte, EscapeLast, High}
use Rattle.words.specs.declared.reading.Reading.TheVariants.{Low, Open, Count}
use Rattle.words.specs.Law.{ends, WordsComeBack}
use Rattle.words.specs.Numbers.{digit, more}
use Rattle.words.specs.Printed.{hex, print_number, print_byte, print_each, print_row, print_on}
use Rattle.words.specs.Words.{plain, hex_value, begin, high, low, counted, next, added, whole, word_on}
use Rattle.words.proofs.Figures.{digits, value_on, value_ge, more_some, decimal_digits, decimal_value, decimal_any}
use Rattle.words.proofs.Letters.{step, end, closed}

-- STATES in which a byte may begin, and those in which the word may end too
data Free : Reading → Type 0 where
  begun : Free Begun
  byte : (x : ℕ) → Free (Byte x)
  repeated : (x n : ℕ) → Free (Repeated x n)

data Done : Reading → Type 0 where
  byte : (x : ℕ) → Done (Byte x)
  repeated : (x n : ℕ) → Done (Repeated x n)

free : (s : Reading) → Done s → Free s
free _ (byte x) = byte x
free _ (repeated x n) = repeated x n

is_whole : (s : Reading) → Done s → whole s ≡ true
is_whole _ (byte x) = refl
is_whole _ (repeated x n) = refl

-- a step that adds nothing
quiet : (s t : Reading) (out : List ℕ) (b : ℕ) (bs : List ℕ) → eqb b 32 ≡ false → next s b ≡ Some t → added t ≡ [] →
    word_on s out (b ∷ bs) ≡ word_on t out bs
quiet s t out b bs d e a =
    step s t out b bs d e ∙ ap (λ xs. word_on t (out ++ xs) bs) a ∙ ap (λ xs. word_on t xs bs) (append-nil out)

-- ONE BYTE
begin_plain : (b : ℕ) (escape : Reading) → plain b ≡ true → begin b escape ≡ Some (Byte b)
begin_plain b escape p =
    let q : eqb b 92 ≡ false = not-true (eqb b 92) (and_parts (leb 33 b && leb b 126) (not (eqb b 92)) p).1 in
    cond-false (eqb b 92) (Some escape) _ q ∙ cond-true (plain b) (Some (Byte b)) None p

plain_next : (s : Reading) (b : ℕ) → Free s → plain b ≡ true → next s b ≡ Some (Byte b)
plain_next _ b begun p = begin_plain b EscapeFirst p
plain_next _ b (byte x) p = begin_plain b (EscapeByte x) p
plain_next _ b (repeated x n) p = begin_plain b EscapeLast p

not_space : (b : ℕ) → plain b ≡ true → eqb b 32 ≡ false
not_space b p =
    let q = and_parts (leb 33 b && leb b 126) (not (eqb b 92)) p in
    let h = leb-true 33 b (and_parts (leb 33 b) (leb b 126) q.0).0 in
    ne_eqb b 32 (λ e. omega arith)

digit_space : (b : ℕ) → digit b ≡ true → eqb b 32 ≡ false
digit_space b d =
    let h = leb-true 48 b (and_parts (leb 48 b) (leb b 57) d).0 in
    ne_eqb b 32 (λ e. omega arith)

one_less : (n : ℕ) → suc n - 1 ≡ n
one_less n = omega arith

plus_none : (n : ℕ) → n ≡ 0 * 10 + n
plus_none n = omega arith

slash : (s : Reading) (out bs : List ℕ) → Free s → word_on s out (92 ∷ 120 ∷ bs) ≡ word_on High out bs
slash _ out bs begun =
    quiet Begun EscapeFirst out 92 (120 ∷ bs) refl refl refl ∙ quiet EscapeFirst High out 120 bs refl refl refl
slash _ out bs (byte x) =
    quiet (Byte x) (EscapeByte x) out 92 (120 ∷ bs) refl refl refl ∙ quiet (EscapeByte x) High out 120 bs refl refl refl
slash _ out bs (repeated x n) =
    quiet (Repeated x n) EscapeLast out 92 (120 ∷ bs) refl refl refl ∙ quiet EscapeLast High out 120 bs refl refl refl

-- hexadecimal digits
hex_back : (v : ℕ) → v < 16 → hex_value (hex v) ≡ Some v
hex_back v h = grind (arith, nat_tests)

hex_space : (v : ℕ) → eqb (hex v) 32 ≡ false
hex_space v = grind (arith, nat_tests)

hex_high : (out bs : List ℕ) (v : ℕ) → v < 16 → word_on High out (hex v ∷ bs) ≡ word_on (Low v) out bs
hex_high out bs v h = quiet High (Low v) out (hex v) bs (hex_space v) (ap high (hex_back v h)) refl

hex_low : (out bs : List ℕ) (h v : ℕ) → v < 16 →
    word_on (Low h) out (hex v ∷ bs) ≡ word_on (Byte (h % 16 * 16 + v)) (out ++ ((h % 16 * 16 + v) ∷ [])) bs
hex_low out bs h v l = step (Low h) (Byte (h % 16 * 16 + v)) out (hex v) bs (hex_space v) (ap (low h) (hex_back v l))

halves : (b : ℕ) → b < 256 → b / 16 % 16 * 16 + b % 16 ≡ b
halves b h = omega arith

byte_back : (s : Reading) (out rest : List ℕ) (b : ℕ) → Free s → b < 256 →
    word_on s out (print_byte b ++ rest) ≡ word_on (Byte b) (out ++ (b ∷ [])) rest
byte_back s out rest b f h =
    ⊎_elim
    (λ p. ap (λ xs. word_on s out (xs ++ rest)) (cond-true (plain b) (b ∷ []) _ p)
    ∙ step s (Byte b) out b rest (not_space b p) (plain_next s b f p))
    (λ p. ap (λ xs. word_on s out (xs ++ rest)) (cond-false (plain b) (b ∷ []) _ p)
    ∙ slash s out (hex (b / 16) ∷ hex (b % 16) ∷ rest) f
    ∙ hex_high out (hex (b % 16) ∷ rest) (b / 16) (omega arith)
    ∙ hex_low out rest (b / 16) (b % 16) (omega arith)
    ∙ ap (λ x. word_on (Byte x) (out ++ (x ∷ [])) rest) (halves b h))
    (cases_Bool (plain b))

-- A REPETITION
count_step : (x n b : ℕ) (out bs : List ℕ) → digit b ≡ true → n * 10 + (b - 48) < 18446744073709551616 →
    word_on (Count x n) out (b ∷ bs) ≡ word_on (Count x (n * 10 + (b - 48))) out bs
count_step x n b out bs d h =
    quiet (Count x n) (Count x (n * 10 + (b - 48))) out b bs (digit_space b d)
    (cond-true (digit b) (counted x (more n b)) _ d ∙ ap (counted x) (more_some n b h)) refl

count_digits : (x n : ℕ) (out ds rest : List ℕ) → digits ds ≡ true → value_on n ds < 18446744073709551616 →
    word_on (Count x n) out (ds ++ rest) ≡ word_on (Count x (value_on n ds)) out rest
count_digits x n out [] rest d h = refl
count_digits x n out (c ∷ cs) rest d h =
    let g = value_ge (n * 10 + (c - 48)) cs in
    let p = and_parts (digit c) (digits cs) d in
    count_step x n c out (cs ++ rest) p.0 (omega arith) ∙ count_digits x (n * 10 + (c - 48)) out cs rest p.1 h

open_digits : (x : ℕ) (out ds rest : List ℕ) → digits ds ≡ true → 0 < length ds → value_on 0 ds < 18446744073709551616 →
    word_on (Open x) out (ds ++ rest) ≡ word_on (Count x (value_on 0 ds)) out rest
open_digits x out [] rest d l h = absurd (omega arith)
open_digits x out (c ∷ cs) rest d l h =
    let p = and_parts (digit c) (digits cs) d in
    quiet (Open x) (Count x (c - 48)) out c (cs ++ rest) (digit_space c p.0)
    (cond-true (digit c) (Some (Count x (c - 48))) None p.0) refl
    ∙ ap (λ n. word_on (Count x n) out (cs ++ rest)) (plus_none (c - 48))
    ∙ count_digits x (0 * 10 + (c - 48)) out cs rest p.1 h

times_back : (x n : ℕ) (out rest : List ℕ) → 0 < n → n < 18446744073709551616 →
    word_on (Byte x) out (92 ∷ 123 ∷ print_number n ++ (125 ∷ rest)) ≡ word_on (Repeated x n) (out ++ replicate (n - 1) x) rest
times_back x n out rest l h =
    let v = decimal_value n h in
    let some : eqb n 0 ≡ false = ne_eqb n 0 (λ e. omega arith) in
    quiet (Byte x) (EscapeByte x) out 92 (123 ∷ print_number n ++ (125 ∷ rest)) refl refl refl
    ∙ quiet (EscapeByte x) (Open x) out 123 (print_number n ++ (125 ∷ rest)) refl refl refl
    ∙ open_digits x out (print_number n) (125 ∷ rest) (decimal_digits n h) (decimal_any n h) (omega arith)
    ∙ ap (λ m. word_on (Count x m) out (125 ∷ rest)) v
    ∙ step (Count x n) (Repeated x n) out 125 rest refl (ap (λ t. cond (not t) (Some (Repeated x n)) None) some)

-- ROWS. From wherever a byte may begin, a text is read as some bytes, and the word may end or go on after it.
record Goes (s : Reading) (out text bs rest : List ℕ) : Type 0 where
  to : Reading
  done : Done to
  reads : word_on s out (text ++ rest) ≡ word_on to (out ++ bs) rest

abbrev Reads : List ℕ → List ℕ → Type 0
Reads text bs = (s : Reading) (out rest : List ℕ) → Free s → Goes s out text bs rest

reads_byte : (b : ℕ) → b < 256 → Reads (print_byte b) (b ∷ [])
reads_byte b h s out rest f = record { to = Byte b; done = byte b; reads = byte_back s out rest b f h }

reads_then : (p q a b : List ℕ) → Reads p a → Reads q b → Reads (p ++ q) (a ++ b)
reads_then p q a b x y s out rest f =
    let g = x s out (q ++ rest) f in
    let h = y g.to (out ++ a) rest (free g.to g.done) in
    record {
      to = h.to;
      done = h.done;
      reads = ap (λ t. word_on s out t) (append_assoc p q rest) ∙ g.reads ∙ h.reads
          ∙ ap (λ t. word_on h.to t rest) (append_assoc out a b);
    }

reads_each : (b n : ℕ) → b < 256 → Reads (print_each b (suc n)) (replicate (suc n) b)
reads_each b zero h = subst (λ t. Reads t (b ∷ [])) (sym (append-nil (print_byte b))) (reads_byte b h)
reads_each b (suc n) h =
    reads_then (print_byte b) (print_each b (suc n)) (b ∷ []) (replicate (suc n) b) (reads_byte b h) (reads_each b n h)

-- one byte, and then the rest of its row
row_parts : (b n : ℕ) → 0 < n → (b ∷ []) ++ replicate (n - 1) b ≡ replicate n b
row_parts b zero h = absurd (omega arith)
row_parts b (suc n) h = ap (λ k. b ∷ replicate k b) (one_less n)

reads_times : (b n : ℕ) → b < 256 → 0 < n → n < 18446744073709551616 →
    Reads (print_byte b ++ (92 ∷ 123 ∷ print_number n ++ (125 ∷ []))) (replicate n b)
reads_times b n h l m s out rest f =
    record {
      to = Repeated b n;
      done = repeated b n;
      reads = ap (λ t. word_on s out t) (append_assoc (print_byte b) (92 ∷ 123 ∷ print_number n ++ (125 ∷ [])) rest)
          ∙ byte_back s out ((92 ∷ 123 ∷ print_number n ++ (125 ∷ [])) ++ rest) b f h
          ∙ ap (λ t. word_on (Byte b) (out ++ (b ∷ [])) (92 ∷ 123 ∷ t)) (append_assoc (print_number n) (125 ∷ []) rest)
          ∙ times_back b n (out ++ (b ∷ [])) rest l m
          ∙ ap (λ t. word_on (Repeated b n) t rest) (append_assoc out (b ∷ []) (replicate (n - 1) b))
          ∙ ap (λ t. word_on (Repeated b n) (out ++ t) rest) (row_parts b n l);
    }

reads_row : (b n : ℕ) → b < 256 → 0 < n → n < 18446744073709551616 → Reads (print_row b n) (replicate n b)
reads_row b zero h l m = absurd (omega arith)
reads_row b (suc n) h l m =
    ⊎_elim
    (λ s. subst (λ t. Reads t (replicate (suc n) b)) (sym (cond-true _ _ _ (lt-ltb (suc n) 4 s))) (reads_each b n h))
    (λ s. subst (λ t. Reads t (replicate (suc n) b)) (sym (cond-false _ _ _ (le-ltb (suc n) 4 s))) (reads_times b (suc n) h l m))
    (cases_lt (suc n) 4)

row_more : (b n : ℕ) (xs : List ℕ) → replicate (n + 1) b ++ xs ≡ replicate n b ++ (b ∷ xs)
row_more b n xs = ap (λ t. t ++ xs) (sym (replicate_more n b)) ∙ append_assoc (replicate n b) (b ∷ []) xs

reads_on : (b n : ℕ) (xs : List ℕ) → b < 256 → 0 < n → n < 18446744073709551616 → bytes xs ≡ true →
    Reads (print_on b n xs) (replicate n b ++ xs)
unfolding bytes
reads_on b n [] h l m e = subst (Reads (print_row b n)) (sym (append-nil (replicate n b))) (reads_row b n h l m)
reads_on b n (x ∷ xs) h l m e =
    let p = and_parts (ltb x 256) (bytes xs) e in
    let small = ltb-true x 256 p.0 in
    ⊎_elim
    (λ t. let q = and_parts (eqb x b) (ltb n 18446744073709551615) t in
    let lt = ltb-true n 18446744073709551615 q.1 in
    let same : x ≡ b = eqb-true x b q.0 in
    subst (λ u. Reads u (replicate n b ++ (x ∷ xs))) (sym (cond-true _ _ _ t))
    (subst (Reads (print_on b (n + 1) xs)) (row_more b n xs ∙ ap (λ y. replicate n b ++ (y ∷ xs)) (sym same))
    (reads_on b (n + 1) xs h (omega arith) (omega arith) p.1)))
    (λ t. subst (λ u. Reads u (replicate n b ++ (x ∷ xs))) (sym (cond-false _ _ _ t))
    (reads_then (print_row b n) (print_on x 1 xs) (replicate n b) (x ∷ xs) (reads_row b n h l m)
    (reads_on x 1 xs small (omega arith) (omega arith) p.1)))
    (cases_Bool (eqb x b && ltb n 18446744073709551615))

-- the end of a word
word_ends : (s : Reading) (out rest : List ℕ) → whole s ≡ true → ends rest ≡ true → word_on s out rest ≡ Ok (out, rest)
word_ends s out [] w e = closed s out [] w
word_ends s out (b ∷ bs) w e = end s out b bs e ∙ closed s out (b ∷ bs) w

pub words_come_back : WordsComeBack
unfolding WordsComeBack bytes
words_come_back [] rest e d =
    quiet Begun EscapeFirst [] 92 (45 ∷ rest) refl refl refl ∙ quiet EscapeFirst Empty [] 45 rest refl refl refl
    ∙ word_ends Empty [] rest refl d
words_come_back (b ∷ bs) rest e d =
    let p = and_parts (ltb b 256) (bytes bs) e in
    let g = reads_on b 1 bs (ltb-true b 256 p.0) (omega arith) (omega arith) p.1 Begun [] rest begun in
    g.reads ∙ word_ends g.to (b ∷ bs) rest (is_whole g.to g.done) d
