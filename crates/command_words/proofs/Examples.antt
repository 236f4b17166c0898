-- The rule, computed on rows that have a place or more options than one.
use Rattle.std.proofs.Common.{◌≡◌, List, [], ◌∷◌, Some, None, codes, refl}
use Rattle.command_words.specs.Lines.{Piece}
use Rattle.command_words.specs.Reading.{pieces_of}
use Rattle.command_words.specs.Numbers.{number_between}
use Rattle.command_words.specs.Commands.{command_of, export, export_row, import, init_row, sample, serve}

abbrev both : List Piece
both = (codes "journal", codes "j") ∷ (codes "path", codes "/lab") ∷ []

option_then_place : pieces_of export_row (codes "--journal" ∷ codes "j" ∷ codes "/lab" ∷ []) ≡ Some both
option_then_place = refl

place_then_option : pieces_of export_row (codes "/lab" ∷ codes "--journal=j" ∷ [])
    ≡ Some ((codes "path", codes "/lab") ∷ (codes "journal", codes "j") ∷ [])
place_then_option = refl

no_place : pieces_of export_row (codes "--journal" ∷ codes "j" ∷ []) ≡ None
no_place = refl

two_places : pieces_of export_row (codes "/lab" ∷ codes "/lab" ∷ []) ≡ None
two_places = refl

a_place_by_its_name : pieces_of export_row (codes "--path" ∷ codes "/lab" ∷ []) ≡ None
a_place_by_its_name = refl

an_export : command_of (codes "export" ∷ codes "/lab/" ∷ codes "--journal=j" ∷ []) ≡ Some (export (codes "/lab") (codes "j"))
an_export = refl

an_import : command_of (codes "import" ∷ codes "--owner" ∷ codes "bob" ∷ codes "/lab" ∷ []) ≡ Some (import (codes "/lab") (codes "hsds.journal") (codes "bob"))
an_import = refl

no_owner_named : command_of (codes "import" ∷ codes "/lab" ∷ []) ≡ Some (import (codes "/lab") (codes "hsds.journal") (codes "default"))
no_owner_named = refl

a_group_owns_nothing : command_of (codes "import" ∷ codes "/lab" ∷ codes "--owner=g:lab" ∷ []) ≡ None
a_group_owns_nothing = refl

no_path : command_of (codes "export" ∷ codes "lab" ∷ []) ≡ None
no_path = refl

a_server : command_of (codes "serve" ∷ codes "--links=65536" ∷ codes "--workers" ∷ codes "16" ∷ [])
    ≡ Some (serve (codes "hsds.toml") (codes "hsds.journal") (codes "127.0.0.1:5101") 16 65536)
a_server = refl

a_server_as_it_stands : command_of (codes "serve" ∷ codes "--listen" ∷ codes "[::1]:80" ∷ codes "--journal=j" ∷ [])
    ≡ Some (serve (codes "hsds.toml") (codes "j") (codes "[::1]:80") 4 1000)
a_server_as_it_stands = refl

seventeen_workers : command_of (codes "serve" ∷ codes "--workers=17" ∷ []) ≡ None
seventeen_workers = refl

no_links : command_of (codes "serve" ∷ codes "--links=0" ∷ []) ≡ None
no_links = refl

one_link_more : command_of (codes "serve" ∷ codes "--links=65537" ∷ []) ≡ None
one_link_more = refl

a_sample : command_of (codes "sample" ∷ codes "4294967295" ∷ []) ≡ Some (sample 4294967295)
a_sample = refl

one_past_it : command_of (codes "sample" ∷ codes "4294967296" ∷ []) ≡ None
one_past_it = refl

a_sample_of_none : command_of (codes "sample" ∷ []) ≡ None
a_sample_of_none = refl

a_sample_of_two : command_of (codes "sample" ∷ codes "1" ∷ codes "1" ∷ []) ≡ None
a_sample_of_two = refl

a_sample_with_an_option : command_of (codes "sample" ∷ codes "1" ∷ codes "--journal=j" ∷ []) ≡ None
a_sample_with_an_option = refl

three_options : pieces_of init_row (codes "--lanes=2" ∷ codes "--config" ∷ codes "c" ∷ codes "--journal=j" ∷ [])
    ≡ Some ((codes "lanes", codes "2") ∷ (codes "config", codes "c") ∷ (codes "journal", codes "j") ∷ [])
three_options = refl

an_option_twice : pieces_of init_row (codes "--lanes=2" ∷ codes "--config=c" ∷ codes "--lanes" ∷ codes "2" ∷ []) ≡ None
an_option_twice = refl

a_hyphen : pieces_of init_row (codes "--config=-c" ∷ []) ≡ None
a_hyphen = refl

sixteen : number_between 1 16 (codes "16") ≡ Some 16
sixteen = refl

ten_digits : number_between 1 16 (codes "0000000004") ≡ Some 4
ten_digits = refl

eleven_digits : number_between 1 16 (codes "00000000004") ≡ None
eleven_digits = refl

no_digit : number_between 1 16 (codes "+4") ≡ None
no_digit = refl

seventeen : number_between 1 16 (codes "17") ≡ None
seventeen = refl
