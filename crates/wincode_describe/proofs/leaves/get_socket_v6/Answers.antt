use Rattle.std.proofs.Common.{rules, ◌≡◌, ◌∙◌, sym, ap, subst, ◌∷◌, [], ℕ, List, length, arith}
use Rattle.std.proofs.lemmas.List.{map-id}
use Rattle.std.specs.Int.{w128}
use Rattle.wincode_io.specs.NumberLaws.{from_le_bytes-worth}
use Rattle.wincode_io.specs.Numbers.{worth}
use Rattle.wincode_base.specs.Outcomes.{Gives}
use Rattle.wincode_describe.specs.Parts.{Socket}
use Rattle.wincode_describe.specs.Types.{socket_parts_read}
use Rattle.wincode_describe.specs.declared.described.StdType.TheVariants.{SocketAddrV6}
use Rattle.wincode_describe.specs.declared.shown.Shown.TheVariants as shown
use Rattle.wincode_describe.proofs.Gets.{socket_refused, socket_got}
use Rattle.wincode_describe.proofs.leaves.get_socket_v6.Goals as goal

pub returns-in_err-octets : goal.returns-in_err-octets
returns-in_err-octets g c =
    let o = c.in_err-octets.ensures in
    socket_refused SocketAddrV6 16 _ _ c.from_residual.ensures o.refused

pub returns : goal.returns
returns g c =
    let v = c.in_ok-octets.octets in
    let p = c.in_ok-octets.port in
    let h = c.from_le_bytes-host.result in
    let P : List ℕ → Type 0 = λ xs. Gives (socket_parts_read 16).reads (g.R.Reader.state c.args.reader.now) (g.R.Reader.state c.get.new.reader) (xs, p) in
    let size : length v ≡ 16 = search rules in
    let same : worth v ≡ h = sym (c.from_le_bytes-host.ensures ∙ from_le_bytes-worth w128 v (omega arith) size) in
    socket_got SocketAddrV6 16 (v, p) (shown.Socket SocketAddrV6 h p) (ap (λ t. Socket SocketAddrV6 t p ∷ []) same)
    (subst P (map-id v) c.in_ok-octets.ensures.ok)
