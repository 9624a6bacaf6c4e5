use Rattle.std.proofs.Common.{◌+◌, true}
use Rattle.std.specs.Net.Socket.{v6_port, v6_flowinfo, v6_scope_id}
use Rattle.std.proofs.lemmas.Option.{IfSome_then}
use Rattle.wincode_base.specs.Arrays.{array_write}
use Rattle.wincode_base.specs.InWindow.{windowed_write}
use Rattle.wincode_base.specs.Leaves.{number_write}
use Rattle.wincode_base.specs.SocketLaws.{port_encoded}
use Rattle.wincode_write.proofs.schema.made.schemas.SocketAddrV6SchemaWrite.encode_front.Goals as goal

pub returns : goal.returns
returns g =
    let a = g.args.src.now in
    IfSome_then g.encode_made.result g.encode_made.ensures (λ n e. (
      e.0,
      port_encoded (windowed_write (array_write 16 (number_write 1 true))) _ (v6_port a) (v6_flowinfo a + v6_scope_id a) _ e.1,
      e.2,
    ))
