mod Lights
mod ReadByForm
