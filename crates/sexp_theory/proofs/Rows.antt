-- Small texts, with what stands first in each and with all their items: the values are typed from the format.
use Rattle.std.proofs.Common.{◌≡◌, ℕ, List, [], ◌∷◌, replicate, true, false, refl}
use Rattle.sexp_theory.specs.Values.{atom, list, nil, cons}
use Rattle.sexp_theory.specs.Places.{Found, nothing, unfinished, last_run, value, bad}
use Rattle.sexp_theory.specs.Machine.{found}
use Rattle.sexp_theory.specs.Items.{value_item, bad_item, items_of, whole_text, end_of}
use Rattle.sexp_theory.specs.declared.input.BadKind.TheVariants.{StrayClose, BadEscape, TooDeep, TooLong, HashBar}
use Rattle.sexp_theory.specs.declared.input.InputEnd.TheVariants.{Clean, Truncated}

abbrev first : List ℕ → Found
first text = found 1000 0 text

-- atoms without quotes, and in quotes
atom_before_blank : first (97 ∷ 32 ∷ 98 ∷ []) ≡ value (atom (97 ∷ [])) 0 1
atom_before_blank = refl

atom_before_quote : first (97 ∷ 34 ∷ 98 ∷ 34 ∷ []) ≡ value (atom (97 ∷ [])) 0 1
atom_before_quote = refl

atom_at_the_end : first (32 ∷ 124 ∷ 35 ∷ []) ≡ last_run (124 ∷ 35 ∷ []) 1
atom_at_the_end = refl

empty_atom : first (34 ∷ 34 ∷ []) ≡ value (atom []) 0 2
empty_atom = refl

escaped_bytes : first (34 ∷ 92 ∷ 48 ∷ 48 ∷ 48 ∷ 92 ∷ 120 ∷ 70 ∷ 102 ∷ 92 ∷ 110 ∷ 10 ∷ 92 ∷ 92 ∷ 92 ∷ 50 ∷ 53 ∷ 53 ∷ 34 ∷ [])
    ≡ value (atom (0 ∷ 255 ∷ 10 ∷ 10 ∷ 92 ∷ 255 ∷ [])) 0 19
escaped_bytes = refl

-- lists, blanks and comments
nested : first (59 ∷ 40 ∷ 10 ∷ 40 ∷ 97 ∷ 40 ∷ 41 ∷ 32 ∷ 98 ∷ 59 ∷ 41 ∷ 10 ∷ 41 ∷ [])
    ≡ value (list (cons (atom (97 ∷ [])) (cons (list nil) (cons (atom (98 ∷ [])) nil)))) 3 13
nested = refl

blanks_alone : first (32 ∷ 9 ∷ 59 ∷ 34 ∷ []) ≡ nothing
blanks_alone = refl

comment_in_list : first (40 ∷ 59 ∷ 41 ∷ []) ≡ unfinished 0
comment_in_list = refl

-- bad places
stray : first (10 ∷ 41 ∷ []) ≡ bad StrayClose 1
stray = refl

escape_of_260 : first (34 ∷ 92 ∷ 50 ∷ 54 ∷ []) ≡ bad BadEscape 1
escape_of_260 = refl

escape_of_256 : first (34 ∷ 92 ∷ 50 ∷ 53 ∷ 54 ∷ []) ≡ bad BadEscape 1
escape_of_256 = refl

escape_of_300 : first (34 ∷ 97 ∷ 92 ∷ 51 ∷ []) ≡ bad BadEscape 2
escape_of_300 = refl

escape_of_250 : first (34 ∷ 92 ∷ 50 ∷ 53 ∷ []) ≡ unfinished 0
escape_of_250 = refl

escape_of_no_hexadecimal : first (34 ∷ 92 ∷ 120 ∷ 52 ∷ 103 ∷ []) ≡ bad BadEscape 1
escape_of_no_hexadecimal = refl

hash_and_bar : first (97 ∷ 35 ∷ 124 ∷ 98 ∷ []) ≡ bad HashBar 1
hash_and_bar = refl

hash_and_comment : first (35 ∷ 59 ∷ 99 ∷ []) ≡ bad HashBar 0
hash_and_comment = refl

hash_in_quotes : first (34 ∷ 35 ∷ 124 ∷ 34 ∷ []) ≡ value (atom (35 ∷ 124 ∷ [])) 0 4
hash_in_quotes = refl

deepest : first (replicate 256 40) ≡ unfinished 0
deepest = refl

too_deep : first (replicate 257 40) ≡ bad TooDeep 256
too_deep = refl

-- the longest item: with four bytes
longest_run : found 4 0 (97 ∷ 97 ∷ 97 ∷ 97 ∷ 41 ∷ []) ≡ value (atom (97 ∷ 97 ∷ 97 ∷ 97 ∷ [])) 0 4
longest_run = refl

too_long_run : found 4 0 (97 ∷ 97 ∷ 97 ∷ 97 ∷ 97 ∷ []) ≡ bad TooLong 4
too_long_run = refl

longest_run_and_comment : found 4 0 (97 ∷ 97 ∷ 97 ∷ 35 ∷ 59 ∷ []) ≡ bad HashBar 3
longest_run_and_comment = refl

longest_run_and_bar : found 4 0 (97 ∷ 97 ∷ 97 ∷ 35 ∷ 124 ∷ []) ≡ bad TooLong 4
longest_run_and_bar = refl

longest_list_and_comment : found 4 0 (40 ∷ 97 ∷ 97 ∷ 35 ∷ 59 ∷ []) ≡ bad TooLong 4
longest_list_and_comment = refl

longest_escape : found 3 0 (34 ∷ 92 ∷ 50 ∷ 54 ∷ []) ≡ bad TooLong 3
longest_escape = refl

-- all items: `a)b`, a line end, `c "\`, a line end, `d(`
text : List ℕ
text = 97 ∷ 41 ∷ 98 ∷ 10 ∷ 99 ∷ 32 ∷ 34 ∷ 92 ∷ 10 ∷ 100 ∷ 40 ∷ []

items_of_text : items_of 1000 true (whole_text text)
    ≡ value_item (atom (97 ∷ [])) 0 1 ∷ bad_item 1 StrayClose ∷ value_item (atom (99 ∷ [])) 4 5 ∷ bad_item 7 BadEscape ∷ value_item
    (atom (100 ∷ [])) 9 10 ∷ []
unfolding text
items_of_text = refl

end_of_text : end_of 1000 (whole_text text) ≡ Truncated 10
unfolding text
end_of_text = refl

-- `a`: not yet an item where the text may go on
last_atom : items_of 1000 true (whole_text (97 ∷ [])) ≡ value_item (atom (97 ∷ [])) 0 1 ∷ []
last_atom = refl

no_item_yet : items_of 1000 false (whole_text (97 ∷ [])) ≡ []
no_item_yet = refl

clean_end : end_of 1000 (whole_text (97 ∷ 59 ∷ 40 ∷ [])) ≡ Clean
clean_end = refl

skipped_line_to_the_end : end_of 1000 (whole_text (41 ∷ 40 ∷ [])) ≡ Clean
skipped_line_to_the_end = refl
