-- The table of records: the number of each kind and of its data type, in the order of the manual
-- (Calma GDSII Stream Format Manual, release 6.0).
use Rattle.std.specs.Prelude.{◌≡◌, ℕ, List, [], ◌∷◌}
use Rattle.gds_record.specs.declared.form.TheConstants as forms
use Rattle.gds_record.specs.declared.kind.TheConstants as kinds

-- kind and data type
abbrev pub manual : List (ℕ × ℕ)
manual =
    (0x00, 0x02) ∷ (0x01, 0x02) ∷ (0x02, 0x06) ∷ (0x03, 0x05) ∷ (0x04, 0x00) ∷ (0x05, 0x02)
    ∷ (0x06, 0x06) ∷ (0x07, 0x00) ∷ (0x08, 0x00) ∷ (0x09, 0x00) ∷ (0x0a, 0x00) ∷ (0x0b, 0x00)
    ∷ (0x0c, 0x00) ∷ (0x0d, 0x02) ∷ (0x0e, 0x02) ∷ (0x0f, 0x03) ∷ (0x10, 0x03) ∷ (0x11, 0x00)
    ∷ (0x12, 0x06) ∷ (0x13, 0x02) ∷ (0x15, 0x00) ∷ (0x16, 0x02) ∷ (0x17, 0x01) ∷ (0x19, 0x06)
    ∷ (0x1a, 0x01) ∷ (0x1b, 0x05) ∷ (0x1c, 0x05) ∷ (0x1f, 0x06) ∷ (0x20, 0x06) ∷ (0x21, 0x02)
    ∷ (0x22, 0x02) ∷ (0x23, 0x06) ∷ (0x26, 0x01) ∷ (0x2a, 0x02) ∷ (0x2b, 0x02) ∷ (0x2c, 0x06)
    ∷ (0x2d, 0x00) ∷ (0x2e, 0x02) ∷ (0x2f, 0x03) ∷ (0x30, 0x03) ∷ (0x31, 0x03) ∷ (0x36, 0x02)
    ∷ (0x37, 0x06) ∷ (0x38, 0x00) ∷ []

-- records whose data type this project's profile leaves open: LIBDIRSIZE, SRFNAME, LIBSECUR,
-- STRCLASS
abbrev pub of_any_form : List ℕ
of_any_form = 0x39 ∷ 0x3a ∷ 0x3b ∷ 0x34 ∷ []

-- the same by the constants' names
abbrev pub named : List (ℕ × ℕ)
named =
    (kinds.HEADER, forms.WORDS) ∷ (kinds.BGNLIB, forms.WORDS) ∷ (kinds.LIBNAME, forms.TEXT)
    ∷ (kinds.UNITS, forms.REALS) ∷ (kinds.ENDLIB, forms.NONE) ∷ (kinds.BGNSTR, forms.WORDS)
    ∷ (kinds.STRNAME, forms.TEXT) ∷ (kinds.ENDSTR, forms.NONE) ∷ (kinds.BOUNDARY, forms.NONE)
    ∷ (kinds.PATH, forms.NONE) ∷ (kinds.SREF, forms.NONE) ∷ (kinds.AREF, forms.NONE)
    ∷ (kinds.TEXT, forms.NONE) ∷ (kinds.LAYER, forms.WORDS) ∷ (kinds.DATATYPE, forms.WORDS)
    ∷ (kinds.WIDTH, forms.NUMBERS) ∷ (kinds.XY, forms.NUMBERS) ∷ (kinds.ENDEL, forms.NONE)
    ∷ (kinds.SNAME, forms.TEXT) ∷ (kinds.COLROW, forms.WORDS) ∷ (kinds.NODE, forms.NONE)
    ∷ (kinds.TEXTTYPE, forms.WORDS) ∷ (kinds.PRESENTATION, forms.BITS)
    ∷ (kinds.STRING, forms.TEXT) ∷ (kinds.STRANS, forms.BITS) ∷ (kinds.MAG, forms.REALS)
    ∷ (kinds.ANGLE, forms.REALS) ∷ (kinds.REFLIBS, forms.TEXT) ∷ (kinds.FONTS, forms.TEXT)
    ∷ (kinds.PATHTYPE, forms.WORDS) ∷ (kinds.GENERATIONS, forms.WORDS)
    ∷ (kinds.ATTRTABLE, forms.TEXT) ∷ (kinds.ELFLAGS, forms.BITS) ∷ (kinds.NODETYPE, forms.WORDS)
    ∷ (kinds.PROPATTR, forms.WORDS) ∷ (kinds.PROPVALUE, forms.TEXT) ∷ (kinds.BOX, forms.NONE)
    ∷ (kinds.BOXTYPE, forms.WORDS) ∷ (kinds.PLEX, forms.NUMBERS) ∷ (kinds.BGNEXTN, forms.NUMBERS)
    ∷ (kinds.ENDEXTN, forms.NUMBERS) ∷ (kinds.FORMAT, forms.WORDS) ∷ (kinds.MASK, forms.TEXT)
    ∷ (kinds.ENDMASKS, forms.NONE) ∷ []

abbrev pub named_of_any_form : List ℕ
named_of_any_form = kinds.LIBDIRSIZE ∷ kinds.SRFNAME ∷ kinds.LIBSECUR ∷ kinds.STRCLASS ∷ []

-- each constant is its row's number
abbrev pub ConstantsAreManual : Type 0
ConstantsAreManual = (named ≡ manual) × (named_of_any_form ≡ of_any_form)
