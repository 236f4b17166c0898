-- What an attribute contains tells it apart.
use Rattle.std.proofs.Common.{◌≡◌, ap, ◌∙◌}
use Rattle.hdf_types.specs.declared.types.ElemType.{ElemType}
use Rattle.hdf_types.specs.declared.types.ElemType.TheVariants.{Int, Text, Compound}
use Rattle.hdf_types.specs.Views.{elem}
use Rattle.hdf_values.specs.declared.attributes.Attribute.{Attribute}
use Rattle.hdf_values.specs.Attributes.{Content, content}

pub same_type : (a b : ElemType) → elem a ≡ elem b → a ≡ b
same_type (Int s) (Int t) e = cc
same_type (Int s) (Text t) e = cc
same_type (Int s) (Compound t) e = cc
same_type (Text s) (Int t) e = cc
same_type (Text s) (Text t) e = cc
same_type (Text s) (Compound t) e = cc
same_type (Compound s) (Int t) e = cc
same_type (Compound s) (Text t) e = cc
same_type (Compound s) (Compound t) e = cc

pub same_attribute : (a b : Attribute) → content a ≡ content b → a ≡ b
same_attribute a b e =
    let kind = same_type a.elem b.elem (ap (λ (c : Content). c.kind) e) in
    let shape = ap (λ (c : Content). c.shape) e in
    let bytes = ap (λ (c : Content). c.bytes) e in
    ap (λ (k : ElemType). record { elem = k; shape = a.shape; bytes = a.bytes }) kind
    ∙ ap (λ s. record { elem = b.elem; shape = s; bytes = a.bytes }) shape
    ∙ ap (λ x. record { elem = b.elem; shape = b.shape; bytes = x }) bytes
