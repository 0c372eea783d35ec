-- Numbers and the report's words call for no quotes, so a line is its fields with commas between.
use Rattle.std.proofs.Common.{◌≡◌, ◌≢◌, ℕ, suc, ◌+◌, ◌^◌, ◌≤◌, ◌<◌, ℤ, pos, negsuc, List, [], ◌∷◌, ◌++◌, map, take, get_or, length, refl, arith, ap, ◌∙◌, sym, false, w64, FitsSigned}
use Rattle.std.specs.Fmt.{signed_decimal, decimal}
use Rattle.std.specs.Str.Parse.{AllDigits}
use Rattle.std.specs.List.{join_with_byte}
use Rattle.std.proofs.lemmas.Fmt.{decimal_is_IsNumeral}
use Rattle.std.proofs.lemmas.Str.Parse.{digit_from_value}
use Rattle.std.proofs.lemmas.Bool.Decides.{nat_tests}
use Rattle.std.proofs.lemmas.Int.{ints}
use Rattle.std.proofs.lemmas.List.{append-nil, append_assoc, map-append, take_more}
use Rattle.csv.specs.Writing.{default_writer, needs_quotes, needs_byte, row_text, fields_text, field_text, is_blank, writer_setup}
use Rattle.fill_report.specs.declared.line.Density.{Density}
use Rattle.fill_report.specs.declared.line.Density.TheVariants.{Low, High, Within}
use Rattle.fill_report.specs.Report.{density_word, line_text}
use Rattle.csv.specs.declared.writer.QuoteStyle.TheVariants as style
use Rattle.csv.specs.declared.writer.WriterBuilder.{WriterBuilder}
use Rattle.fill_report.specs.Writing.{Lines, IsReady, AllPlain}

digit_plain : (c : ℕ) → 48 ≤ c → c ≤ 57 → needs_byte default_writer c ≡ false
digit_plain c low high = grind (arith, nat_tests)

digits_plain : (ds : List ℕ) → AllDigits 10 ds → needs_quotes default_writer ds ≡ false
digits_plain [] h = refl
digits_plain (c ∷ cs) h =
    let range = digit_from_value c h.0 in
    rw (digit_plain c range.0 range.1) (digits_plain cs h.1)

decimal_plain : (n : ℕ) → n < 2 ^ 64 → needs_quotes default_writer (decimal n) ≡ false
decimal_plain n small = digits_plain (decimal n) (decimal_is_IsNumeral n small).0.1

pub number_plain : (z : ℤ) → FitsSigned w64 z → needs_quotes default_writer (signed_decimal z) ≡ false
number_plain (pos n) fits = decimal_plain n (omega (arith, ints))
number_plain (negsuc n) fits = decimal_plain (suc n) (omega (arith, ints))

pub word_plain : (d : Density) → needs_quotes default_writer (density_word d) ≡ false
word_plain Low = refl
word_plain High = refl
word_plain Within = refl

pub plain-push : (fs : List (List ℕ)) (f : List ℕ) → AllPlain fs → needs_quotes default_writer f ≡ false → AllPlain (fs ++ f ∷ [])
plain-push [] f h k = (k, tt)
plain-push (g ∷ fs) f h k = (h.0, plain-push fs f h.1 k)

-- one number more
pub numbers_plain_more : (ns : List ℤ) (i : ℕ) (d : ℤ) → i < length ns → FitsSigned w64 (get_or ns i d) → AllPlain (map signed_decimal (take i ns)) → AllPlain (map signed_decimal (take (i + 1) ns))
numbers_plain_more ns i d lt fits plain =
    rw (take_more ns i d lt, map-append signed_decimal (take i ns) (get_or ns i d ∷ [])) (plain-push (map signed_decimal (take i ns)) (signed_decimal (get_or ns i d)) plain (number_plain (get_or ns i d) fits))

-- fields that call for no quotes stand as they are
fields_plain : (fs : List (List ℕ)) (f : List ℕ) → AllPlain (f ∷ fs) → field_text default_writer f ++ fields_text default_writer fs ≡ join_with_byte 44 (f ∷ fs)
unfolding fields_text
fields_plain [] f h = rw h.0 (append-nil f)
fields_plain (g ∷ fs) f h = rw h.0 (ap (λ t. f ++ 44 ∷ t) (fields_plain fs g h.1))

-- a record of two fields or more is its fields with commas between, ended by a line feed
pub row_plain : (f g : List ℕ) (fs : List (List ℕ)) → AllPlain (f ∷ g ∷ fs) → row_text default_writer (f ∷ g ∷ fs) ≡ join_with_byte 44 (f ∷ g ∷ fs) ++ 10 ∷ []
unfolding is_blank
row_plain f g fs h = ap (λ t. t ++ 10 ∷ []) (fields_plain (g ∷ fs) f h)

plain-append : (fs gs : List (List ℕ)) → AllPlain fs → AllPlain gs → AllPlain (fs ++ gs)
plain-append [] gs h k = k
plain-append (f ∷ fs) gs h k = (h.0, plain-append fs gs h.1 k)

-- the fields of a line make its text
pub line_row : (ns : List ℤ) (d : Density) (fields : List (List ℕ)) → 0 < length ns → AllPlain (map signed_decimal ns)
    → fields ≡ map signed_decimal ns ++ density_word d ∷ [] → row_text default_writer fields ≡ line_text ns d
line_row [] d fields some plain is = absurd (omega arith)
line_row (n ∷ []) d fields some plain is = ap (row_text default_writer) is ∙ row_plain (signed_decimal n) (density_word d) [] (plain.0, (word_plain d, tt))
line_row (n ∷ m ∷ ns) d fields some plain is =
    ap (row_text default_writer) is ∙ row_plain (signed_decimal n) (signed_decimal m) (map signed_decimal ns ++ density_word d ∷ []) (plain.0, (plain.1.0, plain-append (map signed_decimal ns) (density_word d ∷ []) plain.1.1 (word_plain d, tt)))

-- one field more of a line
pub field_more : (front old new : List (List ℕ)) (ns : List ℤ) (i : ℕ) (d : ℤ) (part text : List ℕ) → i < length ns → old ≡ front ++ map signed_decimal (take i ns) → part ≡ []
    → text ≡ signed_decimal (get_or ns i d) → new ≡ old ++ (part ++ text) ∷ [] → new ≡ front ++ map signed_decimal (take (i + 1) ns)
field_more front old new ns i d part text lt old_is part_is text_is new_is =
    new_is ∙ rw (old_is, part_is, text_is, take_more ns i d lt, map-append signed_decimal (take i ns) (get_or ns i d ∷ [])) (append_assoc front (map signed_decimal (take i ns)) (signed_decimal (get_or ns i d) ∷ []))

-- the writer of lines looks at no numbers
pub ready_style : (w : Lines) → IsReady w → (writer_setup w).style ≢ style.NonNumeric
ready_style w ready = necessary (writer_setup w) ready.setup
  where
    other : style.Necessary ≡ style.NonNumeric → ⊥
    other e = cc

    necessary : (b : WriterBuilder) → b ≡ default_writer → b.style ≡ style.NonNumeric → ⊥
    necessary b is e = other (sym (ap (λ (d : WriterBuilder). d.style) is) ∙ e)

-- a line more, after what is written so far
pub line_more : (w : Lines) (old new front : List ℕ) (ns : List ℤ) (d : Density) (start numbers fields : List (List ℕ)) (part word : List ℕ) → IsReady w → 0 < length ns → AllPlain (map signed_decimal ns)
    → start ≡ [] → numbers ≡ start ++ map signed_decimal ns → part ≡ [] → word ≡ density_word d → fields ≡ numbers ++ (part ++ word) ∷ []
    → new ≡ old ++ row_text (writer_setup w) fields → old ≡ front → new ≡ front ++ line_text ns d
line_more w old new front ns d start numbers fields part word ready some plain start_is numbers_are part_is word_is fields_are new_is old_is =
    let all : fields ≡ map signed_decimal ns ++ density_word d ∷ [] = fields_are ∙ rw (numbers_are, start_is, part_is, word_is) refl in
    new_is ∙ (ap (λ b. old ++ row_text b fields) ready.setup ∙ (ap (λ t. old ++ t) (line_row ns d fields some plain all) ∙ ap (λ t. t ++ line_text ns d) old_is))
