-- Trees and the links that they spell.
use Rattle.std.proofs.Common.{◌≡◌, ◌↔◌, ℕ, List, cond, Option, Some, None, Result, Ok, Err, IsErrOf, option_map, option_and_then, refl, ap, ◌∙◌}
use Rattle.serde_json.specs.Data.{string}
use Rattle.shapes.specs.declared.printing.Form.{Form}
use Rattle.shapes.specs.declared.printing.Form.TheVariants.{Rest, Document}
use Rattle.groups_links.specs.Printed.{link_tree}
use Rattle.groups_links.specs.Targets.{IsSoundLink, IsText, Reads, link_in, text_in}
use Rattle.groups_links.specs.declared.target.LinkTo.{LinkTo}
use Rattle.groups_links.specs.declared.target.LinkTo.TheVariants.{Hard, Soft, External}
use Rattle.groups_links.specs.declared.reading.LinkFault.{LinkFault}
use Rattle.groups_links.specs.declared.reading.LinkFault.TheVariants.{NotALink, NoMemory}
use Rattle.groups_links.proofs.IdLemmas.{id_of-text}

-- a tree is refused exactly where it spells nothing
pub refused_exactly : {A : Type 0} (r : Result A LinkFault) (found : Option A) → Reads r found → (IsErrOf r NotALink ↔ (found ≡ None))
refused_exactly (Ok x) found e = (λ h. absurd (cc), λ h. absurd (cc))
refused_exactly (Err NotALink) found e = (λ _. e, λ _. refl)
refused_exactly (Err NoMemory) None e = absurd (cc)
refused_exactly (Err NoMemory) (Some x) e = (λ h. absurd (cc), λ h. absurd (cc))

text_back : (text : List ℕ) → IsText text → text_in (string text) ≡ Some text
text_back text h = ap (λ b. cond b (Some text) None) h

-- what a link is printed as spells it
pub printed_back : (title : List ℕ) (link : LinkTo) (form : Form) → IsSoundLink link → link_in (link_tree title link form) ≡ Some link
unfolding link_in
printed_back title (Hard id) form h = ap (option_map Hard) (id_of-text id h)
printed_back title (Soft path) form h = ap (option_map Soft) (text_back path h)
printed_back title (External path file) Rest h =
    ap (option_and_then (λ p. option_map (External p) (text_in (string file)))) (text_back path h.0) ∙ ap (option_map (External path)) (text_back file h.1)
printed_back title (External path file) Document h =
    ap (option_and_then (λ p. option_map (External p) (text_in (string file)))) (text_back path h.0) ∙ ap (option_map (External path)) (text_back file h.1)
