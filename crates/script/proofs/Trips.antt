-- CALLS COME BACK from their lines: each field is read back, then the verb, then the whole line.
use Rattle.std.proofs.Common.{◌≡◌, ℕ, true, false, List, [], ◌++◌, length, get_or, Ok, Result, sym, refl, ap, ◌∙◌, append-nil, arith}
use Rattle.std.proofs.lemmas.Bool.{and_parts, cond-false}
use Rattle.model.specs.Calls.{Call, find, make_file, make_dir, remove, rename, list, size, read, write, resize, sync_file, sync_tree}
use Rattle.model.specs.Calls.{garbled}
use Rattle.model.specs.Calls.{eight, bytes, readable, call_number}
use Rattle.words.specs.Law.{WordsComeBack, NumbersComeBack, ends}
use Rattle.words.specs.Numbers.{digit}
use Rattle.words.specs.Outcome.{then}
use Rattle.words.proofs.Figures as figures
use Rattle.words.proofs.Spelled as spelled
use Rattle.calls.specs.declared.kind.Kind.{Kind}
use Rattle.calls.specs.declared.kind.Kind.TheVariants.{Find, MakeFile, MakeDir, Remove, Rename, List as ListEntry, Size, Read, Write}
use Rattle.calls.specs.declared.kind.Kind.TheVariants.{Resize, SyncFile, SyncTree}
use Rattle.lines.specs.declared.verb.Verb.{Verb}
use Rattle.lines.specs.declared.verb.Verb.TheVariants.{Call as CallVerb, Limits, Bytes, Power}
use Rattle.lines.specs.Printing.{number_text, word_text, print_named, print_pair, print_one, print_rename, print_write}
use Rattle.lines.specs.Verbs.{verb_text, read_verb}
use Rattle.script.specs.Fields.{number_field, word_field, named_field, one_named, one_number, two_numbers}
use Rattle.script.specs.Law.{CallsComeBack, CallsToldApart}
use Rattle.script.specs.Lines.{Line, ask, read_asked, read_fields, passed, in_columns}
use Rattle.script.specs.Lines.{read_line}

-- FIELDS
number_back : (n : ℕ) (rest : List ℕ) → eight n ≡ true → digit (get_or rest 0 0) ≡ false →
    number_field (number_text n ++ rest) ≡ Ok (n, rest)
unfolding NumbersComeBack
number_back n rest e d = figures.numbers_come_back n rest e d

word_back : (bs rest : List ℕ) → bytes bs ≡ true → ends rest ≡ true → word_field (word_text bs ++ rest) ≡ Ok (bs, rest)
unfolding WordsComeBack
word_back bs rest e d = spelled.words_come_back bs rest e d

number_last : (n : ℕ) → eight n ≡ true → number_field (number_text n) ≡ Ok (n, [])
number_last n e = ap number_field (sym (append-nil (number_text n))) ∙ number_back n [] e refl

word_last : (bs : List ℕ) → bytes bs ≡ true → word_field (word_text bs) ≡ Ok (bs, [])
word_last bs e = ap word_field (sym (append-nil (word_text bs))) ∙ word_back bs [] e refl

-- a first part that is read, and what goes on from it
goes : {A B : Type 0} {m : Result A ℕ} (x : A) (g : A → Result B ℕ) (y : Result B ℕ) → m ≡ Ok x → g x ≡ y → then m g ≡ y
goes x g y e h = ap (λ n. then n g) e ∙ h

named_back : (d : ℕ) (n rest : List ℕ) → eight d ≡ true → bytes n ≡ true → ends rest ≡ true →
    named_field (number_text d ++ (word_text n ++ rest)) ≡ Ok (d, n, rest)
named_back d n rest e f r =
    goes (d, word_text n ++ rest) _ _ (number_back d (word_text n ++ rest) e refl)
    (goes (n, rest) _ _ (word_back n rest f r) refl)

named_last : (d : ℕ) (n : List ℕ) → eight d ≡ true → bytes n ≡ true →
    named_field (number_text d ++ word_text n) ≡ Ok (d, n, [])
named_last d n e f =
    ap (λ t. named_field (number_text d ++ t)) (sym (append-nil (word_text n))) ∙ named_back d n [] e f refl

-- VERBS
verb_back : (v : Verb) (t : List ℕ) → read_verb (verb_text v ++ t) ≡ Ok (v, t)
verb_back (CallVerb Find) t = refl
verb_back (CallVerb MakeFile) t = refl
verb_back (CallVerb MakeDir) t = refl
verb_back (CallVerb Remove) t = refl
verb_back (CallVerb Rename) t = refl
verb_back (CallVerb ListEntry) t = refl
verb_back (CallVerb Size) t = refl
verb_back (CallVerb Read) t = refl
verb_back (CallVerb Write) t = refl
verb_back (CallVerb Resize) t = refl
verb_back (CallVerb SyncFile) t = refl
verb_back (CallVerb SyncTree) t = refl
verb_back Limits t = refl
verb_back Bytes t = refl
verb_back Power t = refl

not_passed : (v : Verb) (t : List ℕ) → passed (verb_text v ++ t) ≡ false
not_passed (CallVerb Find) t = refl
not_passed (CallVerb MakeFile) t = refl
not_passed (CallVerb MakeDir) t = refl
not_passed (CallVerb Remove) t = refl
not_passed (CallVerb Rename) t = refl
not_passed (CallVerb ListEntry) t = refl
not_passed (CallVerb Size) t = refl
not_passed (CallVerb Read) t = refl
not_passed (CallVerb Write) t = refl
not_passed (CallVerb Resize) t = refl
not_passed (CallVerb SyncFile) t = refl
not_passed (CallVerb SyncTree) t = refl
not_passed Limits t = refl
not_passed Bytes t = refl
not_passed Power t = refl

line_back : (v : Verb) (t : List ℕ) (x : Line) → read_fields v t ≡ Ok x → read_line (verb_text v ++ t) ≡ Ok x
line_back v t x h =
    ap (in_columns (length (verb_text v ++ t)))
    (cond-false _ _ _ (not_passed v t) ∙ goes (v, t) _ _ (verb_back v t) h)

-- CALLS
call_back : (k : Kind) (t : List ℕ) (c : Call) → read_asked k t ≡ Ok c → read_line (verb_text (CallVerb k) ++ t) ≡ Ok (ask c)
call_back k t c h = line_back (CallVerb k) t (ask c) (goes c _ _ h refl)

named : (k : Kind) (f : ℕ → List ℕ → Call) → ((t : List ℕ) → read_asked k t ≡ then (one_named t) (λ p. Ok (f p.0 p.1))) →
    (d : ℕ) (n : List ℕ) → eight d ≡ true → bytes n ≡ true → read_line (print_named k d n) ≡ Ok (ask (f d n))
named k f r d n e g =
    call_back k (number_text d ++ word_text n) (f d n)
    (r _ ∙ goes (d, n) _ _ (goes (d, n, []) _ _ (named_last d n e g) refl) refl)

two : (m n : ℕ) → eight m ≡ true → eight n ≡ true → two_numbers (number_text m ++ number_text n) ≡ Ok (m, n)
two m n e f =
    goes (m, number_text n) _ _ (number_back m (number_text n) e refl) (goes (n, []) _ _ (number_last n f) refl)

paired : (k : Kind) (f : ℕ → ℕ → Call) → ((t : List ℕ) → read_asked k t ≡ then (two_numbers t) (λ p. Ok (f p.0 p.1))) →
    (m n : ℕ) → eight m ≡ true → eight n ≡ true → read_line (print_pair k m n) ≡ Ok (ask (f m n))
paired k f r m n e g =
    call_back k (number_text m ++ number_text n) (f m n) (r _ ∙ goes (m, n) _ _ (two m n e g) refl)

single : (k : Kind) (f : ℕ → Call) → ((t : List ℕ) → read_asked k t ≡ then (one_number t) (λ i. Ok (f i))) →
    (i : ℕ) → eight i ≡ true → read_line (print_one k i) ≡ Ok (ask (f i))
single k f r i e =
    call_back k (number_text i) (f i) (r _ ∙ goes i _ _ (goes (i, []) _ _ (number_last i e) refl) refl)

renamed : (d : ℕ) (n : List ℕ) (e : ℕ) (m : List ℕ) → eight d ≡ true → bytes n ≡ true → eight e ≡ true → bytes m ≡ true →
    read_line (print_rename d n e m) ≡ Ok (ask (rename d n e m))
renamed d n e m a b c f =
    call_back Rename (number_text d ++ (word_text n ++ (number_text e ++ word_text m))) (rename d n e m)
    (goes (d, n, number_text e ++ word_text m) _ _ (named_back d n (number_text e ++ word_text m) a b refl)
    (goes (e, m, []) _ _ (named_last e m c f) refl))

written : (i o : ℕ) (b : List ℕ) → eight i ≡ true → eight o ≡ true → bytes b ≡ true →
    read_line (print_write i o b) ≡ Ok (ask (write i o b))
written i o b e f g =
    call_back Write (number_text i ++ (number_text o ++ word_text b)) (write i o b)
    (goes (i, number_text o ++ word_text b) _ _ (number_back i (number_text o ++ word_text b) e refl)
    (goes (o, word_text b) _ _ (number_back o (word_text b) f refl) (goes (b, []) _ _ (word_last b g) refl)))

pub come_back : CallsComeBack
unfolding CallsComeBack readable call_number
come_back (find d n) h = let p = and_parts (eight d) (bytes n) h.0 in named Find find (λ t. refl) d n p.0 p.1
come_back (make_file d n) h = let p = and_parts (eight d) (bytes n) h.0 in named MakeFile make_file (λ t. refl) d n p.0 p.1
come_back (make_dir d n) h = let p = and_parts (eight d) (bytes n) h.0 in named MakeDir make_dir (λ t. refl) d n p.0 p.1
come_back (remove d n) h = let p = and_parts (eight d) (bytes n) h.0 in named Remove remove (λ t. refl) d n p.0 p.1
come_back (rename d n e m) h =
    let p = and_parts _ _ h.0 in
    let q = and_parts (eight d) (bytes n) p.0 in
    let r = and_parts (eight e) (bytes m) p.1 in
    renamed d n e m q.0 q.1 r.0 r.1
come_back (list d k) h = let p = and_parts (eight d) (eight k) h.0 in paired ListEntry list (λ t. refl) d k p.0 p.1
come_back (size i) h = single Size size (λ t. refl) i h.0
come_back (read i o) h = let p = and_parts (eight i) (eight o) h.0 in paired Read read (λ t. refl) i o p.0 p.1
come_back (write i o b) h =
    let p = and_parts _ (bytes b) h.0 in
    let q = and_parts (eight i) (eight o) p.0 in
    written i o b q.0 q.1 p.1
come_back (resize i n) h = let p = and_parts (eight i) (eight n) h.0 in paired Resize resize (λ t. refl) i n p.0 p.1
come_back (sync_file i) h = single SyncFile sync_file (λ t. refl) i h.0
come_back sync_tree h =
    ap read_line (sym (append-nil (verb_text (CallVerb SyncTree)))) ∙ call_back SyncTree [] sync_tree refl
come_back (garbled n) h = absurd (omega (arith, h.1))

same_ask : (c d : Call) → ◌≡◌ {A = Result Line ℕ} (Ok (ask c)) (Ok (ask d)) → c ≡ d
same_ask c d e = cc

pub told_apart : CallsToldApart
unfolding CallsToldApart CallsComeBack
told_apart c d p q e = same_ask c d (sym (come_back c p) ∙ ap read_line e ∙ come_back d q)
